-- The map of parents and the map of links.
use Rattle.std.specs.Prelude.{ℕ, ◌+◌, ◌≤◌, ◌<◌, ◌≡◌, Bool, cond, List, ltb, length, get_or, set}
use Rattle.std.proofs.Math.Option.{Option, some, none}
use Rattle.kinds.specs.Numbers.{most_objects}
use Rattle.spec.specs.Count.{count, lowest}
use Rattle.spec.specs.Image.{Store, objects, object_at, name_at}
use Rattle.spec.specs.Room.{is_naming}
use Rattle.spec.specs.Check.{most_names}

-- the directory of a record and 1, or 0 where there is no record
abbrev pub mark_of : Store → Option ℕ → ℕ
mark_of s none = 0
mark_of s (some n) = (name_at s n).directory + 1

-- the map of parents after the records below n, which name no object more often than it may be named
pub record NamedBy (s : Store) (n : ℕ) (parents : List ℕ) : Type 0 where
  pub long : length parents ≡ most_objects
  pub marks : (o : ℕ) → o < objects s → get_or parents o 0 ≡ mark_of s (lowest n (is_naming s o))
  pub most : (o : ℕ) → o < objects s → count n (is_naming s o) ≤ most_names (object_at s o).kind
  pub range : (o : ℕ) → get_or parents o 0 ≤ objects s
  pub root : get_or parents 0 0 ≡ 0

-- the map of links after the records below n: how many of them name each object
pub record LinkedBy (s : Store) (n : ℕ) (links : List ℕ) : Type 0 where
  pub long : length links ≡ most_objects
  pub counts : (o : ℕ) → o < objects s → get_or links o 0 ≡ count n (is_naming s o)

-- whether object o may have one name more than `links` has, and the map, with that name where it may
pub record CountsFurther (s : Store) (o : ℕ) (r : Bool) (links links' : List ℕ) : Type 0 where
  pub is : r ≡ ltb (get_or links o 0) (most_names (object_at s o).kind)
  pub map : links' ≡ cond r (set links o (get_or links o 0 + 1)) links
