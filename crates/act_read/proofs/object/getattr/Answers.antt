use Rattle.spec.specs.Procedures.Attributes.{getattr}
use Rattle.check_handles.proofs.Reach.{object_showable}
use Rattle.act_read.proofs.object.getattr.Goals as goal

pub returns-in-Ok-clause-writable : goal.returns-in-Ok-clause-writable
unfolding getattr
returns-in-Ok-clause-writable c = object_showable _ _ _ _ c.in-Ok.is c.requires.good_records c.reach.ensures
