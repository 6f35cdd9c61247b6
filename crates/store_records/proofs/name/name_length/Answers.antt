use Rattle.spec.specs.Image.{name_length}
use Rattle.store_records.proofs.name.name_length.Goals as goal

pub returns : goal.returns
unfolding name_length
returns c = rw (c.get_u32.ensures, c.name_start-at.ensures)
