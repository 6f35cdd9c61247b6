use Rattle.spec.specs.Image.{object_at, object_from}
use Rattle.store_records.proofs.object.mode_of.Goals as goal

pub returns : goal.returns
unfolding object_at object_from
returns c = rw (c.get_u32.ensures, c.object_start-at.ensures)
