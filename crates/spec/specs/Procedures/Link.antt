-- LINK.
use Rattle.std.specs.Prelude.{ℕ, leb, List}
use Rattle.std.proofs.Math.Option.{Option, some, none}
use Rattle.kinds.specs.Numbers.{OK, EXIST, INVAL, NOSPC, MLINK, most_links}
use Rattle.kinds.specs.declared.object.Attributes.{Attributes}
use Rattle.kinds.specs.declared.object.Change.{Change}
use Rattle.kinds.specs.declared.object.Context.{Context}
use Rattle.spec.specs.Checked.{Checked, ◌>>=◌, ◌>>◌, refuse_if, present, absent, passed}
use Rattle.spec.specs.Edits.{set_attributes, only_ctime, add_name}
use Rattle.spec.specs.Handles.{reach, reach_directory, check_name, attributes, change, handle_attributes, handle_change}
use Rattle.spec.specs.Image.{Store}
use Rattle.spec.specs.Names.{is_dots}
use Rattle.spec.specs.Procedures.Names.{touch_directory}
use Rattle.spec.specs.Results.{Result, Done, settle, dead, linked}
use Rattle.spec.specs.Room.{is_directory, available_name, find_name, namings}

-- what LINK checks of file o and in directory d. E7: "then the name checks ("." or ".." EXIST), EXIST, MLINK at 16 names, NOSPC without a free name":
-- the free name record
unfoldable pub check_added : Store → ℕ → ℕ → List ℕ → Checked ℕ
check_added s o d text = do
  check_name text
  refuse_if (is_dots text) EXIST
  absent EXIST (find_name s d text)
  refuse_if (leb most_links (namings s o)) MLINK
  present NOSPC (available_name s)

-- E7: "source handle, INVAL if a directory, directory handle, NOTDIR": the file, the directory and the name record
unfoldable pub check_link : Store → List ℕ → List ℕ → List ℕ → Checked (ℕ × ℕ × ℕ)
check_link s h g text = do
  o ← reach s h
  refuse_if (is_directory s o) INVAL
  d ← reach_directory s g
  n ← check_added s o d text
  passed (o, d, n)

-- E7: "Of times, only the file's ctime and the directory's mtime and ctime change."
unfoldable pub link_edit : Store → Context → ℕ → ℕ → ℕ → List ℕ → Store
link_edit s c o d n text = touch_directory (add_name (set_attributes s c.clock o only_ctime) n o d text) c d

abbrev pub linked_or : ℕ → Option Attributes → Option Change → Result
linked_or status none none = dead status
linked_or status none (some b) = linked status none (some b)
linked_or status (some a) b = linked status (some a) b

-- "Every optional attribute is present exactly when its handle .. is live": the file's and the directory's, each by its own handle
unfoldable pub fail_linking : Store → List ℕ → List ℕ → ℕ → Result
fail_linking s h g status = linked_or status (handle_attributes s h) (handle_change s s g)

abbrev pub linked_to : Store → ℕ → ℕ → Store → Done
linked_to s o d t = record { result = linked OK (some (attributes t o)) (some (change s t d)); store = t }

unfoldable pub link : Store → Context → List ℕ → List ℕ → List ℕ → Done
link s c h g text =
    settle s (fail_linking s h g) (check_link s h g text) (λ p. linked_to s p.0 p.1 (link_edit s c p.0 p.1 p.2 text))
