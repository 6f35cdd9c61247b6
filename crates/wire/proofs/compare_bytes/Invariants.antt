use Rattle.std.proofs.Common.{◌≡◌, ◌-◌, ◌≤◌}
use Rattle.spec.specs.Bytes.{part}
use Rattle.wire.proofs.compare_bytes.Given as goal

abbrev pub invariant-loop-i : goal.invariant-loop-i
invariant-loop-i l = (l.i ≤ l.len) × (part l.a l.at l.i ≡ part l.b l.from l.i)

abbrev pub decreases-loop-i : goal.decreases-loop-i
decreases-loop-i l = l.len - l.i

abbrev pub invariant-loop-k : goal.invariant-loop-k
invariant-loop-k l = part l.a l.at l.k ≡ part l.b l.from l.k
