use mathlib.Core.Bool.{not}
use mathlib.Core.Path.{◌≡◌}
use Prim.Native.Nat.{◌-◌}
use Rattle.spec.specs.Count.{every}
use Rattle.fsck_objects.specs.Objects.{is_unused}
use Rattle.fsck_objects.proofs.object.past_unused.Given as goal

abbrev pub invariant-loop-i : goal.invariant-loop-i
invariant-loop-i l = (l.from ≡ 32 - l.n) × (not l.other ≡ every l.i (is_unused l.s l.at l.n))
