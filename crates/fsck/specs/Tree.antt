-- The steps from an object to the root.
use Rattle.std.specs.Prelude.{ℕ, ◌-◌, ◌≤◌, ◌<◌, ◌≡◌, List, length, get_or, true}
use Rattle.kinds.specs.Numbers.{most_objects}
use Rattle.spec.specs.Image.{Store, objects}
use Rattle.spec.specs.Count.{every}
use Rattle.spec.specs.Check.{good_namings, leads_to_root}
use Rattle.spec.specs.Room.{parent, above}

-- the root lies d steps above object o, and no fewer
pub record Depth (s : Store) (o d : ℕ) : Type 0 where
  pub root : above s d o ≡ 0
  pub least : (k : ℕ) → k < d → above s k o ≡ 0 → ⊥

-- the map of parents: each parent and 1, or 0 for the root as the parent of an object that nothing names
pub record Parents (s : Store) (p : ℕ) (parents : List ℕ) : Type 0 where
  pub count : p ≡ objects s
  pub least : 1 ≤ p
  pub most : p ≤ most_objects
  pub long : length parents ≡ most_objects
  pub are : (o : ℕ) → o < p → parent s o ≡ get_or parents o 0 - 1
  pub range : (o : ℕ) → get_or parents o 0 ≤ p
  pub root : get_or parents 0 0 ≡ 0

-- the map of known steps: of the root, and what else has been found
pub record Known (s : Store) (p : ℕ) (depths : List ℕ) : Type 0 where
  pub long : length depths ≡ most_objects
  pub root : get_or depths 0 0 ≡ 1
  pub are : (o : ℕ) → o < p → (get_or depths o 0 ≡ 0 → ⊥) → Depth s o (get_or depths o 0 - 1)

-- r is the number of steps from o to the root, or more than p where p steps do not lead there
pub record Steps (s : Store) (p o r : ℕ) : Type 0 where
  pub found : r ≤ p → Depth s o r
  pub lost : p < r → above s p o ≡ 0 → ⊥

-- object o is named as it must be, and its parents lead to the root
pub record Leads (s : Store) (p o : ℕ) (depths : List ℕ) : Type 0 where
  pub known : Known s p depths
  pub named : good_namings s o ≡ true
  pub leads : leads_to_root s o ≡ true

-- the objects below o are
pub record TreePasses (s : Store) (p o : ℕ) (depths : List ℕ) : Type 0 where
  pub known : Known s p depths
  pub named : every o (good_namings s) ≡ true
  pub leads : every o (leads_to_root s) ≡ true
