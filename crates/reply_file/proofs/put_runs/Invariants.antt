use Prim.Native.Nat.{◌-◌, ◌≤◌}
use mathlib.Core.Path.{◌≡◌}
use lib.ListN.{length}
use Rattle.spec.specs.Edits.{read_file}
use Rattle.xdr.specs.Wrote.{Wrote}
use Rattle.reply_file.proofs.put_runs.Given as goal

abbrev pub invariant-loop-done : goal.invariant-loop-done
invariant-loop-done l = (l.done ≤ l.n) × Wrote l.done l.initial.reply l.reply l.at l.next (read_file l.store l.o.0 l.offset l.done) × (length l.reply ≡ length l.initial.reply)

abbrev pub decreases-loop-done : goal.decreases-loop-done
decreases-loop-done l = l.n - l.done
