use Rattle.spec.specs.Room.{is_live}
use Rattle.store_records.proofs.object.is_live.Goals as goal

pub returns : goal.returns
unfolding is_live
returns c = rw c.kind_of.ensures
