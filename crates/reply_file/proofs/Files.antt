-- The bytes of a file lie in the store. Assumes nothing.
use mathlib.Core.Logic.{◌⊎◌}
use Prim.Native.Nat.{ℕ, ◌+◌, ◌/◌, ◌%◌, ◌≤◌, ◌<◌}
use mathlib.Core.Path.{ap}
use native.Mathlib.Omega.{arith}
use lib.ListN.{length}
use Rattle.kinds.specs.Layout.{object_length, block_length}
use Rattle.kinds.specs.Numbers.{most_file_bytes}
use Rattle.kinds.specs.declared.object.Object.{Object}
use Rattle.spec.specs.Image.{Store, object_start, objects, blocks, object_at}
use Rattle.spec.specs.Room.{size_of, byte_at}
use Rattle.laws.proofs.GoodRecords.{GoodRecords}
use Rattle.laws.proofs.Valid.{GoodObject, LiveObject, live_size}

-- an object with a byte is live
with_byte : (r : ℕ) (v : Object) (i : ℕ) → GoodObject r v → i < v.size → LiveObject r v
with_byte r v i (◌⊎◌.inl f) h = absurd (omega (arith, ap (λ (x : Object). x.size) f))
with_byte r v i (◌⊎◌.inr l) h = l

module _ (s : Store) (o i : ℕ) (g : GoodRecords s) (l : o < objects s) where
  pub object_in_lem : object_start o + object_length ≤ length s
  object_in_lem = let h = g.sound.shaped in omega arith

  live_file : i < size_of s o → LiveObject (blocks s) (object_at s o)
  unfolding size_of
  live_file h = with_byte (blocks s) (object_at s o) i (g.good_objects o l) h

  pub byte_few : i < size_of s o → i < most_file_bytes
  unfolding size_of
  byte_few h = omega (arith, live_size (blocks s) (object_at s o) (live_file h))

  -- m bytes of one block, from byte i on
  pub run_in : (m : ℕ) → i < size_of s o → i % block_length + m ≤ block_length → byte_at s o i + m ≤ length s
  unfolding byte_at size_of
  run_in m h e =
      let k = g.sound.shaped in
      let b = (live_file h).held (i / block_length) (omega arith) in
      omega arith
