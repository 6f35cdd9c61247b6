use Rattle.check_handles.proofs.Reach.{object_reached}
use Rattle.act_read.proofs.volume.fsstat.Goals as goal

pub room-requires-clause-o_bound : goal.room-requires-clause-o_bound
room-requires-clause-o_bound c = (object_reached _ _ _ _ c.in-Ok.is c.reach.ensures).below
