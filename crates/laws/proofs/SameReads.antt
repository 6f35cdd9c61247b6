-- What each definition about a store reads: it gives the same in two stores that agree in that. Assumes nothing.
use mathlib.Core.Path.{◌≡◌, refl, ap, ap₂}
use mathlib.Core.Bool.{Bool, ◌&&◌, not}
use mathlib.Core.Option.{Option, some, none}
use mathlib.Core.List.{List}
use Prim.Native.Nat.{ℕ, ◌<◌}
use lib.Dec.{eqb}
use lib.ListN.{take}
use Rattle.spec.specs.Count.{count, lowest, times}
use Rattle.spec.specs.Image.{Store, objects, names, blocks, object_at, Name, name_length}
use Rattle.spec.specs.Room.{size_of, need, held, uses, is_free_block, free_block_count}
use Rattle.spec.specs.Room.{is_used_name, is_naming, namings, is_in, is_named}
use Rattle.spec.specs.Room.{directory_of, parent, above, byte_at}
use Rattle.laws.proofs.Count.{sum_ext, lowest_ext, lowest_passes}
use Rattle.laws.proofs.Kept.{NameKept}
use Rattle.laws.proofs.Searches.{count_ext, iterate_ext}

module _ (s t : Store) where
  -- ---- of an object
  pub size_of_reads : (o : ℕ) → (object_at t o).size ≡ (object_at s o).size → size_of t o ≡ size_of s o
  unfolding size_of
  size_of_reads o e = e

  pub held_reads : (o : ℕ) → (object_at t o).size ≡ (object_at s o).size → (object_at t o).blocks ≡ (object_at s o).blocks → held t o ≡ held s o
  unfolding held
  held_reads o e f = ap₂ (λ (n : ℕ) (l : List ℕ). take (need n) l) (size_of_reads o e) f

  pub byte_at_reads : (o : ℕ) → objects t ≡ objects s → names t ≡ names s → (object_at t o).blocks ≡ (object_at s o).blocks
      → (i : ℕ) → byte_at t o i ≡ byte_at s o i
  unfolding byte_at
  byte_at_reads o p q e i = rw (p, q, e)

  -- ---- of a name record
  pub is_used_name_reads : (n : ℕ) → name_length t n ≡ name_length s n → is_used_name t n ≡ is_used_name s n
  unfolding is_used_name
  is_used_name_reads n e = ap (λ (k : ℕ). not (eqb k 0)) e

  pub is_naming_reads : (o n : ℕ) → NameKept s t n → is_naming t o n ≡ is_naming s o n
  unfolding is_naming
  is_naming_reads o n e = ap₂ (λ (b : Bool) (v : Name). b && eqb v.child o) (is_used_name_reads n e.long) e.all

  pub is_in_reads : (d n : ℕ) → NameKept s t n → is_in t d n ≡ is_in s d n
  unfolding is_in
  is_in_reads d n e = ap₂ (λ (b : Bool) (v : Name). b && eqb v.directory d) (is_used_name_reads n e.long) e.all

  pub is_named_reads : (d : ℕ) (text : List ℕ) (n : ℕ) → NameKept s t n → is_named t d text n ≡ is_named s d text n
  unfolding is_named
  is_named_reads d text n e = rw (is_in_reads d n e, e.long, e.all)

  -- ---- of all blocks
  pub uses_reads : objects t ≡ objects s → ((o : ℕ) → o < objects s → held t o ≡ held s o) → (r : ℕ) → uses t r ≡ uses s r
  unfolding uses
  uses_reads p f r = rw p (sum_ext (objects s) (λ o. times r (held t o)) (λ o. times r (held s o)) (λ o l. ap (times r) (f o l)))

  pub is_free_block_reads : (r : ℕ) → uses t r ≡ uses s r → is_free_block t r ≡ is_free_block s r
  unfolding is_free_block
  is_free_block_reads r e = ap (λ (k : ℕ). eqb k 0) e

  pub free_block_count_reads : blocks t ≡ blocks s → ((r : ℕ) → r < blocks s → uses t r ≡ uses s r) → free_block_count t ≡ free_block_count s
  unfolding free_block_count
  free_block_count_reads p f = rw p (count_ext (blocks s) (is_free_block t) (is_free_block s) (λ r l. is_free_block_reads r (f r l)))

  -- ---- of all name records
  module _ (q : names t ≡ names s) (f : (n : ℕ) → n < names s → NameKept s t n) where
    pub namings_reads : (o : ℕ) → namings t o ≡ namings s o
    unfolding namings
    namings_reads o = rw q (count_ext (names s) (is_naming t o) (is_naming s o) (λ n l. is_naming_reads o n (f n l)))

    pub entries_reads : (d : ℕ) (text : List ℕ) → count (names t) (is_named t d text) ≡ count (names s) (is_named s d text)
    entries_reads d text = rw q (count_ext (names s) (is_named t d text) (is_named s d text) (λ n l. is_named_reads d text n (f n l)))

    directory_of_reads : (x : Option ℕ) → ((n : ℕ) → x ≡ some n → n < names s) → directory_of t x ≡ directory_of s x
    directory_of_reads none g = refl
    directory_of_reads (some n) g = ap (λ (v : Name). v.directory) (f n (g n refl)).all

    pub parent_reads : (o : ℕ) → parent t o ≡ parent s o
    unfolding parent
    parent_reads o =
        rw (q, lowest_ext (is_naming t o) (is_naming s o) (names s) (λ n l. is_naming_reads o n (f n l)))
        (directory_of_reads (lowest (names s) (is_naming s o)) (λ n e. (lowest_passes (is_naming s o) (names s) n e).below))

    pub above_reads : (k o : ℕ) → above t k o ≡ above s k o
    unfolding above
    above_reads k o = iterate_ext k (parent t) (parent s) o parent_reads
