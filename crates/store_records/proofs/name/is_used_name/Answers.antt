use Rattle.spec.specs.Room.{is_used_name}
use Rattle.store_records.proofs.name.is_used_name.Goals as goal

pub returns : goal.returns
unfolding is_used_name
returns c = rw c.name_length.ensures
