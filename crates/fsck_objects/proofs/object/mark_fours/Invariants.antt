use Prim.Native.Nat.{◌*◌}
use Rattle.fsck_objects.specs.Objects.{MarkedTo}
use Rattle.fsck_objects.proofs.object.mark_fours.Given as goal

abbrev pub invariant-loop-k : goal.invariant-loop-k
invariant-loop-k l = MarkedTo l.store l.o.0 (4 * l.k) l.used
