use Rattle.spec.specs.Room.{is_regular}
use Rattle.store_records.proofs.object.is_regular.Goals as goal

pub returns : goal.returns
unfolding is_regular
returns c = rw c.kind_of.ensures
