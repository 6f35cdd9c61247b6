-- The tail of a file's last block lies in the store. Assumes nothing.
use Prim.Native.Nat.{ℕ, ◌+◌, ◌-◌, ◌/◌, ◌%◌, ◌≤◌, ◌<◌}
use mathlib.Core.Logic.{◌≢◌}
use mathlib.Core.Path.{◌≡◌}
use native.Mathlib.Omega.{arith}
use lib.ListN.{length}
use Rattle.kinds.specs.Layout.{block_length}
use Rattle.kinds.specs.Numbers.{REGULAR, most_file_bytes}
use Rattle.spec.specs.Image.{Store, objects, blocks, object_at}
use Rattle.spec.specs.Room.{size_of, byte_at}
use Rattle.laws.proofs.GoodRecords.{GoodRecords, live_at}
use Rattle.laws.proofs.Valid.{live_size}

pub tail_fits : (s : Store) (o start : ℕ) → GoodRecords s → o < objects s → (object_at s o).kind ≡ REGULAR → start ≤ size_of s o → start % block_length ≢ 0
    → (start < most_file_bytes) × (byte_at s o start + (block_length - start % block_length) ≤ length s)
unfolding byte_at size_of
tail_fits s o start g l k h d =
    let v = live_at s g o l (omega arith) in
    let r = v.held (start / block_length) (omega arith) in
    let w = g.sound.shaped in
    (omega (arith, live_size (blocks s) (object_at s o) v), omega arith)
