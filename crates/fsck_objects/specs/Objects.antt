-- What the pass over the objects keeps: the fields of a live object, and the map of used blocks.
use Rattle.std.specs.Prelude.{Option, Some, None, ℕ, zero, suc, ◌+◌, ◌≤◌, ◌<◌, ◌≡◌, Bool, true, false, ◌&&◌, ◌||◌, List, eqb, leb, ltb, length, take, get_or}
use Rattle.kinds.specs.Numbers.{most_blocks, file_blocks, spent_generation, most_mode}
use Rattle.kinds.specs.declared.object.Object.{Object}
use Rattle.spec.specs.Count.{sum, every, times}
use Rattle.spec.specs.Image.{Store, objects, blocks, object_at}
use Rattle.spec.specs.Check.{good_time, good_size, good_verifier, good_block, good_object, records_pass}
use Rattle.spec.specs.Room.{held, need, is_live}

-- what a live object's numbers, times and verifier must be: all of its demands but those on its blocks
unfoldable pub good_fields : Object → Bool
good_fields v =
    ltb v.generation spent_generation && leb v.mode most_mode && good_time v.atime && good_time v.mtime && good_time v.ctime
    && good_size v && good_verifier v

-- object o is live, with good fields, and its size needs `count` blocks
pub record LiveAt (s : Store) (o count : ℕ) : Type 0 where
  pub below : o < objects s
  pub live : is_live s o ≡ true
  pub fields : good_fields (object_at s o) ≡ true
  pub needs : count ≡ need (object_at s o).size
  pub most : count ≤ file_blocks

-- a map of n bytes that are all 0
pub record Blank (n : ℕ) (map : List ℕ) : Type 0 where
  pub long : length map ≡ n
  pub zero : (i : ℕ) → get_or map i 0 ≡ 0

-- how many places block r serves among the objects below o
abbrev pub uses_below : Store → ℕ → ℕ → ℕ
uses_below s o r = sum o (λ i. times r (held s i))

-- 1 where a number is not 0
abbrev pub mark_for : ℕ → ℕ
mark_for zero = 0
mark_for (suc n) = 1

-- the map of used blocks after the objects below o, where no block is used twice: 1 at each block that serves a place, else 0
pub record UsedBy (s : Store) (o : ℕ) (used : List ℕ) : Type 0 where
  pub long : length used ≡ most_blocks
  pub uses : (r : ℕ) → r < blocks s → get_or used r 0 ≡ uses_below s o r
  pub once : (r : ℕ) → r < blocks s → get_or used r 0 ≤ 1

-- the map of marked blocks after the objects below o: 1 at each block that serves a place, or several, else 0
pub record MarkedBy (s : Store) (o : ℕ) (used : List ℕ) : Type 0 where
  pub long : length used ≡ most_blocks
  pub marks : (r : ℕ) → r < blocks s → get_or used r 0 ≡ mark_for (uses_below s o r)

-- the same after the first k blocks of object o, which are in range
pub record MarkedTo (s : Store) (o k : ℕ) (used : List ℕ) : Type 0 where
  pub long : length used ≡ most_blocks
  pub marks : (r : ℕ) → r < blocks s → get_or used r 0 ≡ mark_for (uses_below s o r + times r (take k (object_at s o).blocks))
  pub good : every k (good_block (blocks s) (object_at s o)) ≡ true

-- object o passes and has n blocks, and the map holds them and those of the objects below it
pub record ObjectPasses (s : Store) (o : ℕ) (used : List ℕ) (n : ℕ) : Type 0 where
  pub map : MarkedBy s (o + 1) used
  pub has : n ≡ length (held s o)
  pub few : n ≤ file_blocks
  pub good : good_object s o ≡ true

-- the objects below o pass, and the map holds their blocks
pub record ObjectsPass (s : Store) (o : ℕ) (used : List ℕ) : Type 0 where
  pub map : UsedBy s o used
  pub good : every o (good_object s) ≡ true

-- what the check of an object tells: its facts for the number of its blocks, else that a demand on the records does not hold
pub record Counted (found : Option ℕ) (s : Store) (facts : ℕ → Type 0) : Type 0 where
  pub yes : (n : ℕ) → found ≡ Some n → facts n
  pub no : found ≡ None → records_pass s ≡ false

-- 32 ones and then zeros: from 32 - n on it tells of each of 32 bytes whether it is one of the first n
pub record Inside (inside : List ℕ) : Type 0 where
  pub long : length inside ≡ 64
  pub ones : (i : ℕ) → i < 32 → get_or inside i 0 ≡ 1
  pub zeros : (i : ℕ) → 32 ≤ i → get_or inside i 0 ≡ 0

-- the n numbers of a map from `from` on are 0 or 1
pub record AreMarks (map : List ℕ) (from n : ℕ) : Type 0 where
  pub most : (i : ℕ) → i < n → get_or map (from + i) 0 ≤ 1

-- past the first n of the 32 bytes from `at`, byte i is 255
abbrev pub is_unused : Store → ℕ → ℕ → ℕ → Bool
is_unused s at n i = eqb (get_or s (at + i) 0) 255 || ltb i n
