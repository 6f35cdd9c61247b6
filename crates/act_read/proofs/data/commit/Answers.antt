use Rattle.spec.specs.Handles.{change}
use Rattle.spec.specs.Procedures.Data.{commit}
use Rattle.check_handles.proofs.Reach.{regular_reached, regular_showable}
use Rattle.act_read.proofs.data.commit.Goals as goal

pub unchanged-requires-clause-o_bound : goal.unchanged-requires-clause-o_bound
unchanged-requires-clause-o_bound c = (regular_reached _ _ _ _ c.in-Ok.is c.reach_regular.ensures).0.below

pub returns-in-Ok-clause-writable : goal.returns-in-Ok-clause-writable
unfolding commit change
returns-in-Ok-clause-writable c = rw c.unchanged.ensures (regular_showable _ _ _ _ c.in-Ok.is c.requires.good_records
    c.reach_regular.ensures)
