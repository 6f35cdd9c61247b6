use Rattle.fsck.proofs.Steps.{Noted}
use Rattle.fsck.proofs.tree.note_steps.Given as goal

abbrev pub invariant-loop-depths : goal.invariant-loop-depths
invariant-loop-depths l = Noted l.store l.p l.depths l.at l.d

abbrev pub decreases-loop-depths : goal.decreases-loop-depths
decreases-loop-depths l = l.d
