use Rattle.spec.specs.Image.{name_at, name_from}
use Rattle.store_records.proofs.name.name_child.Goals as goal

pub returns : goal.returns
unfolding name_at name_from
returns c = rw (c.get_u32.ensures, c.name_start-at.ensures)
