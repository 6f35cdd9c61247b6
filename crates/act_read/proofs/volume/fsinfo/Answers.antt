use Rattle.spec.specs.Procedures.Volume.{fsinfo}
use Rattle.check_handles.proofs.Reach.{object_showable}
use Rattle.act_read.proofs.volume.fsinfo.Goals as goal

pub returns-in-Ok-clause-writable : goal.returns-in-Ok-clause-writable
unfolding fsinfo
returns-in-Ok-clause-writable c = object_showable _ _ _ _ c.in-Ok.is c.requires.good_records c.reach.ensures
