-- That a request asks for room, or for one name too many, in the words of the checks themselves. `Conditions` has that these are the words of the book. Assumes nothing.
use Rattle.std.specs.Prelude.{Option}
use Rattle.kinds.specs.declared.object.Time.{Time}
use mathlib.Core.Path.{◌≡◌}
use mathlib.Core.Bool.{true, false, ◌&&◌, ◌||◌}
use mathlib.Core.Option.{some, none}
use Prim.Native.Nat.{ℕ, ◌+◌, ◌≤◌, ◌<◌, min}
use lib.ListN.{length}
use Rattle.kinds.specs.Numbers.{most_transfer_bytes, most_file_bytes, most_links}
use Rattle.kinds.specs.declared.call.Part.{Part}
use Rattle.kinds.specs.declared.call.NameIn.{NameIn}
use Rattle.kinds.specs.declared.call.Settable.{Settable}
use Rattle.kinds.specs.declared.call.How.{How}
use Rattle.kinds.specs.declared.call.How.TheVariants as How
use Rattle.kinds.specs.declared.call.Arguments.TheVariants as Call
use Rattle.spec.specs.Checked.{passed}
use Rattle.spec.specs.Handles.{reach, reach_directory}
use Rattle.spec.specs.Image.{Store, object_at, name_at}
use Rattle.spec.specs.Procedures.{cut}
use Rattle.spec.specs.Procedures.Attributes.{is_given, size_set, bad_attributes, differs}
use Rattle.spec.specs.Procedures.Data.{reach_regular, grown}
use Rattle.spec.specs.Procedures.Names.{settable_in, check_new}
use Rattle.spec.specs.Room.{is_regular, is_directory, size_of, namings, find_name}
use Rattle.history.specs.Run.{Request}
use Rattle.history.specs.Statement.{Asks, Room, growth, new_object, new_name}
use Rattle.history.proofs.Statuses.{MayAdd}

-- the request passes the earlier checks of its procedure, and asks for this room
pub data AsksStore (s : Store) (x : Request) : Room → Type 0 where
  -- SETATTR: the size that it gives, or the old one
  by_setattr : (h : Part) (a : Settable) (g : Option Time) (o : ℕ) → Asks x (Call.Setattr h a g)
      → reach s (cut x.call h) ≡ passed o → differs g (object_at s o).ctime ≡ false → bad_attributes a ≡ false
      → is_given a.size && is_directory s o ≡ false
      → AsksStore s x (growth (size_of s o) (size_set a.size (size_of s o)))
  -- WRITE of some bytes
  by_write : (h : Part) (offset n : ℕ) (bytes : Part) (o : ℕ) → Asks x (Call.Write h offset n bytes)
      → reach_regular s (cut x.call h) ≡ passed o → n ≡ length (cut x.call bytes)
      → 0 < n → offset + min n most_transfer_bytes ≤ most_file_bytes
      → AsksStore s x (growth (size_of s o) (grown s o offset (min n most_transfer_bytes)))
  -- CREATE of a new file, in any manner
  by_create : (target : NameIn) (manner : How) (d : ℕ) → Asks x (Call.Create target manner)
      → reach_directory s (cut x.call target.directory) ≡ passed d
      → check_new (cut x.call target.name) (bad_attributes (settable_in manner)) ≡ passed tt
      → find_name s d (cut x.call target.name) ≡ none
      → AsksStore s x (new_object (size_set (settable_in manner).size 0))
  -- CREATE, UNCHECKED, of an existing regular file
  by_recreate : (target : NameIn) (a : Settable) (d n : ℕ) → Asks x (Call.Create target (How.Unchecked a))
      → reach_directory s (cut x.call target.directory) ≡ passed d
      → check_new (cut x.call target.name) (bad_attributes a) ≡ passed tt
      → find_name s d (cut x.call target.name) ≡ some n → is_regular s (name_at s n).child ≡ true
      → AsksStore s x (growth (size_of s (name_at s n).child) (size_set a.size (size_of s (name_at s n).child)))
  -- MKDIR
  by_mkdir : (target : NameIn) (a : Settable) (d : ℕ) → Asks x (Call.Mkdir target a)
      → reach_directory s (cut x.call target.directory) ≡ passed d
      → check_new (cut x.call target.name) (bad_attributes a || is_given a.size) ≡ passed tt
      → find_name s d (cut x.call target.name) ≡ none
      → AsksStore s x (new_object 0)
  -- LINK of a file that may have another name
  by_link : (source : Part) (target : NameIn) (o d : ℕ) → Asks x (Call.Link source target)
      → MayAdd s (cut x.call source) (cut x.call target.directory) (cut x.call target.name) o d
      → namings s o < most_links
      → AsksStore s x new_name

-- LINK of a file that has as many names as it may
abbrev pub AsksMany : Store → Request → Type 0
AsksMany s x =
    (source : Part) × (target : NameIn) × (o : ℕ) × (d : ℕ) × Asks x (Call.Link source target)
    × MayAdd s (cut x.call source) (cut x.call target.directory) (cut x.call target.name) o d
    × (most_links ≤ namings s o)
