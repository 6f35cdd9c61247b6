use mathlib.Core.Path.{◌≡◌}
use Prim.Native.Nat.{◌*◌}
use Rattle.spec.specs.Bytes.{part, overlay}
use Rattle.reply_entries.proofs.put_padded.Given as goal

abbrev pub invariant-loop-k : goal.invariant-loop-k
invariant-loop-k l = l.reply ≡ overlay l.initial.reply l.at (part l.src l.from (4 * l.k))
