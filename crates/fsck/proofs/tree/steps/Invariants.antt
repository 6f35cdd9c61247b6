use Rattle.fsck.proofs.Steps.{Climbed}
use Rattle.fsck.proofs.tree.steps.Given as goal

abbrev pub invariant-loop-k : goal.invariant-loop-k
invariant-loop-k l = Climbed l.store l.p l.initial.at l.at l.k
