use Rattle.check_handles.proofs.Reach.{regular_reached}
use Rattle.act_read.proofs.data.read.Goals as goal

pub read_result-requires-clause-o_bound : goal.read_result-requires-clause-o_bound
read_result-requires-clause-o_bound c = (regular_reached _ _ _ _ c.in-Ok.is c.reach_regular.ensures).0.below
