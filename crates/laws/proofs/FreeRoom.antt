-- The free blocks of a store: all but those that the sizes of its objects need. Assumes nothing.
use mathlib.Core.Logic.{◌⊎◌}
use mathlib.Core.Path.{◌≡◌, ap}
use Prim.Native.Nat.{ℕ, ◌+◌, ◌≤◌, ◌<◌}
use native.Mathlib.Omega.{arith}
use lib.ListN.{length}
use Rattle.kinds.specs.Numbers.{most_file_bytes}
use Rattle.kinds.specs.declared.object.Object.{Object}
use Rattle.spec.specs.Count.{sum}
use Rattle.spec.specs.Image.{Store, objects, blocks, object_at}
use Rattle.spec.specs.Room.{size_of, need, held, free_block_count}
use Rattle.laws.proofs.BlockLists.{InRange, held_length, held_range}
use Rattle.laws.proofs.Count.{sum_ext}
use Rattle.laws.proofs.CreateObject.{no_blocks}
use Rattle.laws.proofs.FreeCount.{free_and_used, uses_total}
use Rattle.laws.proofs.GoodRecords.{GoodRecords}
use Rattle.laws.proofs.RecordRange.{object_at_fits}
use Rattle.laws.proofs.Valid.{GoodObject, live_size}

-- a good object's size is at most 8,192, and its blocks are in range
pub good_size_small : (s : Store) (o : ℕ) → GoodObject (blocks s) (object_at s o) → size_of s o ≤ most_file_bytes
unfolding size_of
good_size_small s o (◌⊎◌.inl f) = omega (arith, ap (λ (v : Object). v.size) f)
good_size_small s o (◌⊎◌.inr l) = live_size (blocks s) (object_at s o) l

pub good_range : (s : Store) (o : ℕ) → GoodObject (blocks s) (object_at s o) → InRange (blocks s) (held s o)
good_range s o (◌⊎◌.inl f) = rw (no_blocks s o (ap (λ (v : Object). v.size) f)) (λ k h. absurd (omega arith))
good_range s o (◌⊎◌.inr l) = held_range s o l

-- each object has as many blocks as its size needs
pub good_held_length : (s : Store) → GoodRecords s → (o : ℕ) → o < objects s → length (held s o) ≡ need (size_of s o)
good_held_length s g o l = held_length s o (object_at_fits s o g.sound.bytes) (good_size_small s o (g.good_objects o l))

-- the free blocks and the blocks that sizes need are all blocks
pub free_room : (s : Store) → GoodRecords s → free_block_count s + sum (objects s) (λ o. need (size_of s o)) ≡ blocks s
free_room s g =
    omega (
      arith,
      free_and_used s g.used_once,
      uses_total s (λ o l. good_range s o (g.good_objects o l)),
      sum_ext (objects s) (λ o. length (held s o)) (λ o. need (size_of s o)) (good_held_length s g),
    )
