use Rattle.spec.specs.Image.{blocks}
use Rattle.store_records.proofs.counts.block_count.Goals as goal

pub returns : goal.returns
unfolding blocks
returns c = rw (c.get_u32.ensures, c.name_count-q.ensures, c.object_count-p.ensures)
