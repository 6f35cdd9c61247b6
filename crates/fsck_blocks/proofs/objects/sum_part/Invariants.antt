use mathlib.Core.Path.{◌≡◌}
use Prim.Native.Nat.{◌+◌, ◌≤◌}
use lib.ListN.{get_or}
use Rattle.spec.specs.Count.{sum}
use Rattle.fsck_blocks.proofs.objects.sum_part.Given as goal

abbrev pub invariant-loop-mark : goal.invariant-loop-mark
invariant-loop-mark l = (l.total ≤ l.mark-index) × (l.total ≡ sum l.mark-index (λ j. get_or l.used (l.from + j) 0))
