use borrow.Author.Tests.{eq-eqb}
use Rattle.spec.specs.Rpc.{accepted, mismatch}
use Rattle.xdr.proofs.Wrote.{and_then, sized}
use Rattle.rpc.proofs.outcome.put_stopped.Goals as goal

pub returns-then-stat-eq-PROG_MISMATCH : goal.returns-then-stat-eq-PROG_MISMATCH
unfolding accepted mismatch
returns-then-stat-eq-PROG_MISMATCH c = rw (eq-eqb _ _ c.if-stat-eq-PROG_MISMATCH.true)
    (sized _ (and_then c.put_head-next.ensures c.put_words.ensures))
