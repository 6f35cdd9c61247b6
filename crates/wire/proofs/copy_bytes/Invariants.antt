use Rattle.std.proofs.Common.{◌≡◌, ℕ, ◌*◌, ◌/◌, List, length}
use Rattle.spec.specs.Bytes.{overlay, part}
use Rattle.wire.proofs.copy_bytes.Given as goal

abbrev pub invariant-loop-k : goal.invariant-loop-k
invariant-loop-k l = l.dst ≡ overlay l.initial.dst l.at (part l.src l.from (16 * l.k))

-- of any bytes b that had the whole pieces copied when this loop begins, the first i are copied now
abbrev pub invariant-loop-i : goal.invariant-loop-i
invariant-loop-i l =
    (b : List ℕ) → length l.initial.dst ≡ length b → l.initial.dst ≡ overlay b l.at (part l.src l.from (16 * (l.len / 16))) → l.dst ≡ overlay b l.at (part l.src l.from l.i)
