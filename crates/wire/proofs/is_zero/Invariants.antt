use Rattle.std.proofs.Common.{◌≡◌, not}
use Rattle.spec.specs.Bytes.{part}
use Rattle.spec.specs.Check.{is_zero}
use Rattle.wire.proofs.is_zero.Given as goal

abbrev pub invariant-loop-x : goal.invariant-loop-x
invariant-loop-x l = not l.other ≡ is_zero (part l.s l.at l.x-index)
