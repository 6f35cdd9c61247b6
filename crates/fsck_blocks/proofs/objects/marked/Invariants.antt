use mathlib.Core.Path.{◌≡◌}
use Prim.Native.Nat.{◌*◌, ◌≤◌}
use lib.ListN.{get_or}
use Rattle.spec.specs.Count.{sum}
use Rattle.fsck_blocks.proofs.objects.marked.Given as goal

abbrev pub invariant-loop-k : goal.invariant-loop-k
invariant-loop-k l = (l.total ≤ 256 * l.k) × (l.total ≡ sum (128 * l.k) (λ i. get_or l.used i 0))
