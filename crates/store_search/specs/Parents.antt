-- A table of the directories that objects are in.
use Rattle.std.specs.Prelude.{ℕ, ◌<◌, ◌≡◌, List, length, get_or}
use Rattle.kinds.specs.Numbers.{most_objects}
use Rattle.spec.specs.Image.{Store}
use Rattle.spec.specs.Room.{parent}

-- it has an entry for each object, which is the directory that the object is in
pub record ParentTable (s : Store) (table : List ℕ) : Type 0 where
  pub long : length table ≡ most_objects
  pub entries : (o : ℕ) → o < most_objects → get_or table o 0 ≡ parent s o
