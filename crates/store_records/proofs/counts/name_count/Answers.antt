use Rattle.spec.specs.Image.{names}
use Rattle.store_records.proofs.counts.name_count.Goals as goal

pub returns : goal.returns
unfolding names
returns c = rw (c.get_u32.ensures, c.object_count-p.ensures)
