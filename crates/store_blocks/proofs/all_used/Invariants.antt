use mathlib.Core.Path.{◌≡◌}
use Prim.Native.Nat.{◌+◌, ◌≤◌}
use Rattle.spec.specs.Count.{count}
use Rattle.spec.specs.Room.{is_free_block}
use Rattle.store_blocks.proofs.all_used.Given as goal

abbrev pub invariant-loop-x : goal.invariant-loop-x
invariant-loop-x l = (l.used ≤ l.x-index) × (l.used + count (l.i + l.x-index) (is_free_block l.store) ≡ l.x-index + count l.i (is_free_block l.store))
