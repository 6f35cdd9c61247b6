use Rattle.spec.specs.Procedures.Attributes.{access}
use Rattle.check_handles.proofs.Reach.{object_reached, object_showable}
use Rattle.act_read.proofs.object.access.Goals as goal

pub granted_bits-requires-clause-o_bound : goal.granted_bits-requires-clause-o_bound
granted_bits-requires-clause-o_bound c = (object_reached _ _ _ _ c.in-Ok.is c.reach.ensures).below

pub returns-in-Ok-clause-writable : goal.returns-in-Ok-clause-writable
unfolding access
returns-in-Ok-clause-writable c = object_showable _ _ _ _ c.in-Ok.is c.requires.good_records c.reach.ensures
