use lib.ListN.{length}
use Rattle.kinds.specs.BlockNumbers.{numbers_of}
use Rattle.kinds.specs.Numbers.{file_blocks}
use Rattle.spec.specs.Room.{is_free_block}
use Rattle.store_blocks.proofs.Blocks.{Listed}
use mathlib.Core.Path.{◌≡◌}
use Prim.Native.Nat.{◌-◌, ◌≤◌}
use Rattle.store_blocks.proofs.free_blocks.Given as goal

abbrev pub invariant-loop-i : goal.invariant-loop-i
invariant-loop-i l = (l.i ≤ l.total) × (length l.list ≡ file_blocks) × Listed (is_free_block l.store) l.wanted l.i l.k (numbers_of l.list)

abbrev pub decreases-loop-i : goal.decreases-loop-i
decreases-loop-i l = l.total - l.i
