-- LOOKUP, CREATE and MKDIR.
use Rattle.std.specs.Prelude as Code
use Rattle.std.specs.Prelude.{ℕ, eqb, Bool, true, false, ◌&&◌, ◌||◌, not, cond, List, Some, None}
use Rattle.std.proofs.Math.Option.{Option, some, none}
use Rattle.kinds.specs.Numbers.{NOENT, EXIST, INVAL, NOSPC, REGULAR, DIRECTORY, kept_flag}
use Rattle.kinds.specs.Objects.{plain_object}
use Rattle.kinds.specs.declared.object.Time.{Time}
use Rattle.kinds.specs.declared.object.Object.{Object}
use Rattle.kinds.specs.declared.object.Context.{Context}
use Rattle.kinds.specs.declared.call.Settable.{Settable}
use Rattle.kinds.specs.declared.call.How.{How}
use Rattle.kinds.specs.declared.call.How.TheVariants as How
use Rattle.spec.specs.Checked.{Checked, ◌>>=◌, ◌>>◌, refuse_if, present, absent, refused, passed}
use Rattle.spec.specs.Edits.{with_attributes, set_attributes, only_ctime, mtime_and_ctime, with_verifier, resize, create_object}
use Rattle.spec.specs.Handles.{handle_of, reach_directory, check_name, attributes, change}
use Rattle.spec.specs.Image.{Store, object_at, name_at}
use Rattle.spec.specs.Names.{is_dot, is_dot_dot, is_dots}
use Rattle.spec.specs.Procedures.Attributes.{is_given, size_set, bad_attributes, lacks_room, resize_to}
use Rattle.spec.specs.Results.{Done, unchanged, fail_showing, fail_changing, settle, found, created}
use Rattle.spec.specs.Room.{is_regular, size_of, available_object, available_name, find_name, parent}

abbrev pub child_of : Store → Checked ℕ → Checked ℕ
child_of s (refused status) = refused status
child_of s (passed n) = passed (name_at s n).child

-- ""." itself, ".." the parent (the root's is the root); else NOENT"
unfoldable pub look_in : Store → ℕ → List ℕ → Checked ℕ
look_in s d text = cond (is_dot text) (passed d) (cond (is_dot_dot text) (passed (parent s d)) (child_of s (present NOENT (find_name s d text))))

-- what LOOKUP checks in directory d: the object that was found
unfoldable pub check_in : Store → ℕ → List ℕ → Checked ℕ
check_in s d text = do
  check_name text
  look_in s d text

-- the directory and the object that was found
unfoldable pub check_lookup : Store → List ℕ → List ℕ → Checked (ℕ × ℕ)
check_lookup s h text = do
  d ← reach_directory s h
  o ← check_in s d text
  passed (d, o)

unfoldable pub lookup : Store → List ℕ → List ℕ → Done
lookup s h text =
    settle s (fail_showing s h) (check_lookup s h text) (λ f. unchanged s (found (handle_of s f.1) (attributes s f.1) (attributes s f.0)))

-- "NOSPC for a new object: no available object, no free name, or too few blocks for its size."
unfoldable pub room_for_new : Store → ℕ → Checked (ℕ × ℕ)
room_for_new s size = do
  o ← present NOSPC (available_object s)
  n ← present NOSPC (available_name s)
  refuse_if (lacks_room s 0 size) NOSPC
  passed (o, n)

-- "New: unset fields 0, unset times the clock."
unfoldable pub new_object : Time → ℕ → Settable → Object
new_object clock kind a = with_attributes clock a (plain_object kind 0 clock)

-- "Added or removed names set the directory's mtime and ctime."
abbrev pub touch_directory : Store → Context → ℕ → Store
touch_directory s c d = set_attributes s c.clock d mtime_and_ctime

-- the new object v, of the size that is given, where one is
unfoldable pub new_edit : Store → Context → Object → Code.Option ℕ → ℕ → ℕ → ℕ → List ℕ → Store
new_edit s c v size o n d text = touch_directory (resize_to (create_object s o n v d text) o size) c d

-- the object's handle and attributes, and the directory's change
abbrev pub created_in : Store → Store → ℕ → ℕ → Done
created_in s t d o = record { result = created (handle_of t o) (attributes t o) (change s t d); store = t }

-- what CREATE's checks find: room for a new file, or the file of that name
pub data Target : Type 0 where
  new : ℕ → ℕ → Target
  existing : ℕ → Target

abbrev pub is_new : Checked (ℕ × ℕ) → Checked Target
is_new (refused status) = refused status
is_new (passed p) = passed (new p.0 p.1)

-- the attributes that a call gives; EXCLUSIVE: "an absent name is made with unset attributes"
abbrev pub settable_in : How → Settable
settable_in (How.Unchecked a) = a
settable_in (How.Guarded a) = a
settable_in (How.Exclusive verifier) = only_ctime

-- file o was made EXCLUSIVE with this verifier, and keeps it
unfoldable pub is_made_by : Store → ℕ → ℕ → Bool
is_made_by s verifier o = is_regular s o && eqb (object_at s o).exclusive kept_flag && eqb (object_at s o).verifier verifier

-- the object that has the name is taken: "UNCHECKED on a regular file .. ; other existing names EXIST."; "an existing regular file made that way
-- with the same verifier is success; else EXIST"
abbrev pub is_taken : Store → How → ℕ → Bool
is_taken s (How.Unchecked a) o = is_regular s o
is_taken s (How.Guarded a) o = false
is_taken s (How.Exclusive verifier) o = is_made_by s verifier o

-- "UNCHECKED on a regular file obeys the size only (.. NOSPC possible)"
unfoldable pub check_existing : Store → How → ℕ → Checked Target
check_existing s manner o = do
  refuse_if (not (is_taken s manner o)) EXIST
  refuse_if (lacks_room s (size_of s o) (size_set (settable_in manner).size (size_of s o))) NOSPC
  passed (existing o)

abbrev pub target_of : Store → How → Option ℕ → Checked Target
target_of s manner none = is_new (room_for_new s (size_set (settable_in manner).size 0))
target_of s manner (some n) = check_existing s manner (name_at s n).child

-- the checks of a name to be made: ""." or "..", EXIST. INVAL on attributes as SETATTR."
unfoldable pub check_new : List ℕ → Bool → Checked (Unit {0})
check_new text invalid = do
  check_name text
  refuse_if (is_dots text) EXIST
  refuse_if invalid INVAL

-- "EXCLUSIVE now passes the name checks and "." or ".." give EXIST."
unfoldable pub check_how : Store → ℕ → List ℕ → How → Checked Target
check_how s d text manner = do
  check_new text (bad_attributes (settable_in manner))
  target_of s manner (find_name s d text)

-- the directory and the target
unfoldable pub check_create : Store → List ℕ → List ℕ → How → Checked (ℕ × Target)
check_create s h text manner = do
  d ← reach_directory s h
  t ← check_how s d text manner
  passed (d, t)

-- "(one given sets mtime and ctime; ..)"
abbrev pub existing_edit : Store → Context → ℕ → Code.Option ℕ → Store
existing_edit s c o None = s
existing_edit s c o (Some n) = set_attributes (resize s o n) c.clock o mtime_and_ctime

-- a new file; EXCLUSIVE: "its 8-byte verifier kept"
abbrev pub new_file : Time → How → Object
new_file clock (How.Unchecked a) = new_object clock REGULAR a
new_file clock (How.Guarded a) = new_object clock REGULAR a
new_file clock (How.Exclusive verifier) = with_verifier verifier kept_flag (new_object clock REGULAR only_ctime)

abbrev pub create_edit : Store → Context → ℕ → List ℕ → How → Target → Done
create_edit s c d text manner (new o n) = created_in s (new_edit s c (new_file c.clock manner) (settable_in manner).size o n d text) d o
create_edit s c d text manner (existing o) = created_in s (existing_edit s c o (settable_in manner).size) d o

unfoldable pub create : Store → Context → List ℕ → List ℕ → How → Done
create s c h text manner =
    settle s (fail_changing s h) (check_create s h text manner) (λ p. create_edit s c p.0 text manner p.1)

-- "MKDIR: as GUARDED CREATE; a size given is INVAL.": the directory, the object and the name record
unfoldable pub check_mkdir : Store → List ℕ → List ℕ → Settable → Checked (ℕ × ℕ × ℕ)
check_mkdir s h text a = do
  d ← reach_directory s h
  check_new text (bad_attributes a || is_given a.size)
  absent EXIST (find_name s d text)
  p ← room_for_new s 0
  passed (d, p.0, p.1)

unfoldable pub mkdir : Store → Context → List ℕ → List ℕ → Settable → Done
mkdir s c h text a =
    settle s (fail_changing s h) (check_mkdir s h text a)
    (λ p. created_in s (new_edit s c (new_object c.clock DIRECTORY a) a.size p.1 p.2 p.0 text) p.0 p.1)
