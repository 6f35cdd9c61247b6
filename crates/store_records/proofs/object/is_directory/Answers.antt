use Rattle.spec.specs.Room.{is_directory}
use Rattle.store_records.proofs.object.is_directory.Goals as goal

pub returns : goal.returns
unfolding is_directory
returns c = rw c.kind_of.ensures
