use Rattle.fsck_names.proofs.Chained.{Walked}
use Rattle.fsck_names.proofs.distinct.is_new.Given as goal

abbrev pub invariant-loop-k : goal.invariant-loop-k
invariant-loop-k l = Walked l.store l.n.0 l.h l.found l.k

abbrev pub decreases-loop-k : goal.decreases-loop-k
decreases-loop-k l = l.k
