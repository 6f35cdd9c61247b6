-- Lists of block numbers in range: the blocks that an object has, and the free ones. Assumes nothing.
use mathlib.Core.Path.{◌≡◌, ◌∙◌}
use mathlib.Core.Logic.{⊎_elim}
use mathlib.Core.List.{List, ◌++◌}
use Prim.Native.Nat.{ℕ, ◌+◌, ◌-◌, ◌≤◌, ◌<◌, min}
use native.Mathlib.Omega.{arith}
use lib.ListN.{length, take, drop, get_or, length-append, length-take, length-drop, get_or-append}
use lib.Seq.{get_or-take, get_or-drop, get_or-append-add}
use Rattle.kinds.specs.Numbers.{most_file_bytes}
use Rattle.spec.specs.Image.{Store, blocks, object_at}
use Rattle.spec.specs.Room.{size_of, need, held, is_free_block, free_blocks, free_block_count}
use Rattle.laws.proofs.Bytes.{lt_or_le}
use Rattle.laws.proofs.Count.{passing_length, passing_member}
use Rattle.laws.proofs.Records.{FitsObject}
use Rattle.laws.proofs.Valid.{LiveObject, need_few}

-- every number of the list is below m
abbrev pub InRange : ℕ → List ℕ → Type 0
InRange m rs = (k : ℕ) → k < length rs → get_or rs k 0 < m

pub range_append : (m : ℕ) (xs ys : List ℕ) → InRange m xs → InRange m ys → InRange m (xs ++ ys)
range_append m xs ys f g k h =
    ⊎_elim
    (λ (l : k < length xs). rw (get_or-append xs ys 0 k l) (f k l))
    (λ (l : length xs ≤ k). let e : k ≡ length xs + (k - length xs) = omega arith in
    rw (e, get_or-append-add xs ys (k - length xs) 0) (g (k - length xs) (omega (arith, simp length-append at h))))
    (lt_or_le k (length xs))

pub range_take : (m n : ℕ) (xs : List ℕ) → InRange m xs → InRange m (take n xs)
range_take m n xs f k h =
    let l : k < min n (length xs) = rw (← length-take n xs) h in
    rw (get_or-take n xs k 0 (omega arith)) (f k (omega arith))

pub range_drop : (m n : ℕ) (xs : List ℕ) → InRange m xs → InRange m (drop n xs)
range_drop m n xs f k h =
    let l : k < length xs - n = rw (← length-drop n xs) h in
    rw (get_or-drop n xs k 0) (f (n + k) (omega arith))

-- ---- an object's blocks: as many as its size needs
pub held_length : (s : Store) (o : ℕ) → FitsObject (object_at s o) → size_of s o ≤ most_file_bytes → length (held s o) ≡ need (size_of s o)
unfolding held
held_length s o f h = length-take (need (size_of s o)) (object_at s o).blocks ∙ omega (arith, f.long, need_few (size_of s o) h)

pub held_range : (s : Store) (o : ℕ) → LiveObject (blocks s) (object_at s o) → InRange (blocks s) (held s o)
unfolding held size_of
held_range s o v k h =
    let n = need (object_at s o).size in
    let l : k < min n (length (object_at s o).blocks) = rw (← length-take n (object_at s o).blocks) h in
    rw (get_or-take n (object_at s o).blocks k 0 (omega arith)) (v.held k (omega arith))

-- ---- the free blocks
pub free_length : (s : Store) → length (free_blocks s) ≡ free_block_count s
unfolding free_blocks free_block_count
free_length s = passing_length (is_free_block s) (blocks s)

pub free_range : (s : Store) → InRange (blocks s) (free_blocks s)
unfolding free_blocks
free_range s k h = (passing_member (is_free_block s) (blocks s) k h).below
