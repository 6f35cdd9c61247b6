-- REMOVE, RMDIR and RENAME.
use Rattle.std.specs.Prelude.{ℕ, eqb, Bool, ◌&&◌, ◌||◌, not, cond, List}
use Rattle.std.proofs.Math.Option.{Option, some, none}
use Rattle.kinds.specs.Numbers.{OK, NOENT, ACCES, EXIST, NOTDIR, INVAL, NOTEMPTY}
use Rattle.kinds.specs.declared.object.Change.{Change}
use Rattle.kinds.specs.declared.object.Context.{Context}
use Rattle.spec.specs.Checked.{Checked, ◌>>=◌, ◌>>◌, refuse_if, present, passed}
use Rattle.spec.specs.Count.{some_below}
use Rattle.spec.specs.Edits.{set_attributes, only_ctime, remove_name, move_name}
use Rattle.spec.specs.Handles.{reach_directory, check_name, change, handle_change}
use Rattle.spec.specs.Image.{Store, objects, names, name_at}
use Rattle.spec.specs.Names.{is_dots}
use Rattle.spec.specs.Procedures.Attributes.{edited}
use Rattle.spec.specs.Procedures.Names.{touch_directory}
use Rattle.spec.specs.Results.{Result, Done, fail_changing, settle, dead, renamed}
use Rattle.spec.specs.Room.{is_directory, is_in, find_name, above}

-- what REMOVE and RMDIR check first in directory d: ""." or ".."", this status; "NOENT": the name record
unfoldable pub check_entry : Store → ℕ → List ℕ → ℕ → Checked ℕ
check_entry s d text dots = do
  check_name text
  refuse_if (is_dots text) dots
  present NOENT (find_name s d text)

-- ""." or "..", ACCES; NOENT; directory, ACCES": the directory and the name record
unfoldable pub check_remove : Store → List ℕ → List ℕ → Checked (ℕ × ℕ)
check_remove s h text = do
  d ← reach_directory s h
  n ← check_entry s d text ACCES
  refuse_if (is_directory s (name_at s n).child) ACCES
  passed (d, n)

-- some name is in directory d
unfoldable pub has_entries : Store → ℕ → Bool
has_entries s d = some_below (names s) (is_in s d)

-- ""." or "..", INVAL; NOENT; file, NOTDIR; NOTEMPTY."
unfoldable pub check_rmdir : Store → List ℕ → List ℕ → Checked (ℕ × ℕ)
check_rmdir s h text = do
  d ← reach_directory s h
  n ← check_entry s d text INVAL
  refuse_if (not (is_directory s (name_at s n).child)) NOTDIR
  refuse_if (has_entries s (name_at s n).child) NOTEMPTY
  passed (d, n)

unfoldable pub remove_from : Store → Context → List ℕ → Checked (ℕ × ℕ) → Done
remove_from s c h checks = settle s (fail_changing s h) checks (λ p. edited s p.0 (touch_directory (remove_name s c.clock p.1) c p.0))

unfoldable pub remove : Store → Context → List ℕ → List ℕ → Done
remove s c h text = remove_from s c h (check_remove s h text)

unfoldable pub rmdir : Store → Context → List ℕ → List ℕ → Done
rmdir s c h text = remove_from s c h (check_rmdir s h text)

-- "a directory into itself or below": d is o, or o is above d
unfoldable pub is_within : Store → ℕ → ℕ → Bool
is_within s o d = is_directory s o && some_below (objects s) (λ k. eqb (above s k d) o)

-- what the new name is: not there, a name of the object that is renamed, or the name record of an object that is replaced
pub data Onto : Type 0 where
  new_name : Onto
  same_object : Onto
  replacing : ℕ → Onto

-- E3: "a compatible target is removed first: both non-directories, or both directories with the target empty": p gives way to o
unfoldable pub is_replaceable : Store → ℕ → ℕ → Bool
is_replaceable s o p = cond (is_directory s o) (is_directory s p && not (has_entries s p)) (not (is_directory s p))

-- E3: "Incompatible or not empty stays EXIST."
unfoldable pub check_replace : Store → ℕ → ℕ → Checked Onto
check_replace s o m = do
  refuse_if (not (is_replaceable s o (name_at s m).child)) EXIST
  passed (replacing m)

-- E3: "From and to being the same object is success": o is renamed to a name that is not there, or that name record m has
abbrev pub onto : Store → ℕ → Option ℕ → Checked Onto
onto s o none = passed new_name
onto s o (some m) = cond (eqb (name_at s m).child o) (passed same_object) (check_replace s o m)

-- what RENAME checks in directories d and e: "either name "." or "..", INVAL; NOENT"; E3: "The test for a directory moved into itself or below comes
-- before the one for the target.": both directories, the name record, and what the new name is
unfoldable pub check_move : Store → ℕ → ℕ → List ℕ → List ℕ → Checked (ℕ × ℕ × ℕ × Onto)
check_move s d e text title = do
  check_name text
  check_name title
  refuse_if (is_dots text || is_dots title) INVAL
  n ← present NOENT (find_name s d text)
  refuse_if (is_within s (name_at s n).child e) INVAL
  t ← onto s (name_at s n).child (find_name s e title)
  passed (d, e, n, t)

-- "RENAME checks both directories, from first, then both names."
unfoldable pub check_rename : Store → List ℕ → List ℕ → List ℕ → List ℕ → Checked (ℕ × ℕ × ℕ × Onto)
check_rename s h text g title = do
  d ← reach_directory s h
  e ← reach_directory s g
  check_move s d e text title

-- "The name record is rewritten in place; the object's ctime and both directories' times set."
unfoldable pub move_edit : Store → Context → ℕ → ℕ → ℕ → List ℕ → Store
move_edit s c d e n title =
    touch_directory (touch_directory (set_attributes (move_name s n e title) c.clock (name_at s n).child only_ctime) c d) c e

-- E3: "a compatible target is removed first"; "success with nothing changed, times .. included"
abbrev pub rename_edit : Store → Context → ℕ → ℕ → ℕ → Onto → List ℕ → Store
rename_edit s c d e n new_name title = move_edit s c d e n title
rename_edit s c d e n same_object title = s
rename_edit s c d e n (replacing m) title = move_edit (remove_name s c.clock m) c d e n title

abbrev pub renamed_or : ℕ → Option Change → Option Change → Result
renamed_or status none none = dead status
renamed_or status none (some b) = renamed status none (some b)
renamed_or status (some a) b = renamed status (some a) b

unfoldable pub fail_renaming : Store → List ℕ → List ℕ → ℕ → Result
fail_renaming s h g status = renamed_or status (handle_change s s h) (handle_change s s g)

abbrev pub renamed_to : Store → ℕ → ℕ → Store → Done
renamed_to s d e t = record { result = renamed OK (some (change s t d)) (some (change s t e)); store = t }

unfoldable pub rename : Store → Context → List ℕ → List ℕ → List ℕ → List ℕ → Done
rename s c h text g title =
    settle s (fail_renaming s h g) (check_rename s h text g title) (λ p. renamed_to s p.0 p.1 (rename_edit s c p.0 p.1 p.2 p.3 title))
