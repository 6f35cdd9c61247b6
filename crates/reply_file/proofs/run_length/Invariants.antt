use Prim.Native.Nat.{◌-◌}
use Rattle.reply_file.proofs.Together.{RunTo}
use Rattle.reply_file.proofs.run_length.Given as goal

abbrev pub invariant-loop-run : goal.invariant-loop-run
invariant-loop-run l = RunTo l.store l.o.0 l.i l.left l.k l.run

abbrev pub decreases-loop-run : goal.decreases-loop-run
decreases-loop-run l = l.left - l.run
