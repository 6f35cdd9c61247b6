-- Where the bytes of files lie: each in a block of its file, and no two at one place. Assumes nothing.
use mathlib.Core.Path.{◌≡◌, refl, sym, ◌∙◌}
use mathlib.Core.Logic.{◌≢◌, ⊎_elim, by_cases}
use Prim.Native.Nat.{ℕ, ◌/◌, ◌≤◌, ◌<◌, ◌+◌, ◌%◌}
use native.Mathlib.Omega.{arith}
use native.Mathlib.Decide.{ℕ_discrete}
use lib.ListN.{length, get_or}
use lib.Seq.{get_or-take}
use Rattle.kinds.specs.Layout.{block_length}
use Rattle.spec.specs.Count.{times}
use Rattle.spec.specs.Image.{Store, objects, blocks, block_start, object_at}
use Rattle.spec.specs.Room.{size_of, need, held, uses, byte_at}
use Rattle.laws.proofs.Bytes.{lt_or_le}
use Rattle.laws.proofs.Count.{times_at, times_two}
use Rattle.laws.proofs.FreeRoom.{good_range, good_held_length}
use Rattle.laws.proofs.GoodKept.{uses_at}
use Rattle.laws.proofs.GoodRecords.{GoodRecords}
use Rattle.laws.proofs.Unique.{sum_two}

-- the block in which byte k of object o's file lies
abbrev pub block_of : Store → ℕ → ℕ → ℕ
block_of s o k = get_or (object_at s o).blocks (k / block_length) 0

-- the places of bytes start after the count of blocks
pub place_after : (s : Store) (o k : ℕ) → block_start s 0 ≤ byte_at s o k
unfolding byte_at
place_after s o k = omega arith

module _ (s : Store) (g : GoodRecords s) (o : ℕ) (l : o < objects s) where
  -- the block of a byte is one of the file's
  pub block_held : (k : ℕ) → k < size_of s o → (k / block_length < length (held s o)) × (get_or (held s o) (k / block_length) 0 ≡ block_of s o k)
  unfolding held
  block_held k h =
      let n = good_held_length s g o l in
      (omega arith, get_or-take (need (size_of s o)) (object_at s o).blocks (k / block_length) 0 (omega arith))

  -- and so among the store's blocks
  pub block_below : (k : ℕ) → k < size_of s o → block_of s o k < blocks s
  block_below k h =
      let q = block_held k h in
      rw q.1 at (good_range s o (g.good_objects o l) (k / block_length) q.0)

  -- a file's block is counted among its own
  pub block_counted : (k : ℕ) → k < size_of s o → 0 < times (block_of s o k) (held s o)
  block_counted k h = let q = block_held k h in times_at (block_of s o k) 0 (held s o) (k / block_length) q.0 q.1

  -- the place of a byte of the file lies in the store
  pub place_before : (k : ℕ) → k < size_of s o → byte_at s o k < length s
  unfolding byte_at
  place_before k h =
      let b = block_below k h in
      let w = g.sound.shaped in
      omega arith

module _ (s : Store) (g : GoodRecords s) where
  -- one block serves one file
  pub one_file : (o p : ℕ) → o < objects s → p < objects s → (r : ℕ) → r < blocks s → 0 < times r (held s o) → 0 < times r (held s p) → o ≡ p
  unfolding uses
  one_file o p l m r b x y =
      by_cases (ℕ_discrete o p) (λ e. e)
      (λ d. absurd (omega (arith, sum_two (objects s) o p (λ i. times r (held s i)) l m d, g.used_once r b)))

  -- and stands once in its list
  pub one_index : (o : ℕ) → o < objects s → (i j : ℕ) → i < length (held s o) → j < length (held s o) → get_or (held s o) i 0 < blocks s
      → get_or (held s o) i 0 ≡ get_or (held s o) j 0 → i ≡ j
  one_index o l i j a b h e =
      let r = get_or (held s o) i 0 in
      let u = uses_at s o l r in
      let w = g.used_once r h in
      by_cases (ℕ_discrete i j) (λ q. q) (λ d. absurd (⊎_elim
      (λ (c : i < j). omega (arith, times_two r 0 (held s o) i j c b refl (sym e)))
      (λ (c : j ≤ i). omega (arith, times_two r 0 (held s o) j i (omega arith) a (sym e) refl))
      (lt_or_le i j)))

  -- two bytes in one block are of one file, and of one stretch of 512 bytes in it
  pub block_one : (o p k j : ℕ) → o < objects s → p < objects s → k < size_of s o → j < size_of s p → block_of s o k ≡ block_of s p j
      → (o ≡ p) × (k / block_length ≡ j / block_length)
  block_one o p k j l m a b e =
      let q = one_file o p l m (block_of s o k) (block_below s g o l k a) (block_counted s g o l k a) (rw e (block_counted s g p m j b)) in
      let x = block_held s g o l k a in
      let y : (j / block_length < length (held s o)) × (get_or (held s o) (j / block_length) 0 ≡ block_of s p j) = rw q (block_held s g p m j b) in
      (q, one_index o l (k / block_length) (j / block_length) x.0 y.0 (rw x.1 (block_below s g o l k a)) (x.1 ∙ e ∙ sym y.1))

  -- no two bytes of files lie at one place
  pub place_one : (o p k j : ℕ) → o < objects s → p < objects s → k < size_of s o → j < size_of s p → byte_at s o k ≡ byte_at s p j → (o ≡ p) × (k ≡ j)
  unfolding byte_at
  place_one o p k j l m a b e =
      let q = block_one o p k j l m a b (omega arith) in
      (q.0, omega arith)

  -- a block of one file is not among those of another
  pub block_other : (o p k : ℕ) → o < objects s → p < objects s → p ≢ o → k < size_of s p → times (block_of s p k) (held s o) ≡ 0
  block_other o p k l m d h =
      by_cases (ℕ_discrete (times (block_of s p k) (held s o)) 0) (λ e. e)
      (λ z. absurd (d (one_file p o m l (block_of s p k) (block_below s g p m k h) (block_counted s g p m k h) (omega arith))))
