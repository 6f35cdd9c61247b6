-- What the edits of a call ask of the store: a file that may get a size, and a new object.
use Rattle.std.specs.Prelude.{ℕ, ◌-◌, ◌≤◌, ◌<◌, ◌≡◌, true, List, Option}
use Rattle.kinds.specs.Numbers.{REGULAR, DIRECTORY, most_file_bytes}
use Rattle.kinds.specs.declared.object.Object.{Object}
use Rattle.kinds.specs.declared.object.Context.{Context}
use Rattle.spec.specs.Image.{Store, objects, object_at}
use Rattle.spec.specs.Room.{size_of, need, free_block_count}
use Rattle.spec.specs.Procedures.Attributes.{is_given, size_set}
use Rattle.laws.proofs.GoodRecords.{GoodClock}
use Rattle.laws.proofs.NewObject.{FreshObject}
use Rattle.laws.proofs.Passed.{NewRoom}
use Rattle.laws.proofs.Valid.{GoodName}

-- an object that may get the size, where one is given
pub record Sizable (s : Store) (o : ℕ) (x : Option ℕ) : Type 0 where
  pub below : o < objects s
  pub regular : is_given x ≡ true → (object_at s o).kind ≡ REGULAR
  pub small : size_set x 0 ≤ most_file_bytes
  pub room : need (size_set x (size_of s o)) - need (size_of s o) ≤ free_block_count s

-- a new object v in record o, named `text` in directory d by record n, of the size that is given
pub record Makable (s : Store) (c : Context) (v : Object) (size : Option ℕ) (o n d : ℕ) (text : List ℕ) : Type 0 where
  pub clock : GoodClock c.clock
  pub fresh : FreshObject v
  pub sized : is_given size ≡ true → v.kind ≡ REGULAR
  pub small : size_set size 0 ≤ most_file_bytes
  pub room : NewRoom s (size_set size 0) o n
  pub below : d < objects s
  pub directory : (object_at s d).kind ≡ DIRECTORY
  pub good : GoodName text
