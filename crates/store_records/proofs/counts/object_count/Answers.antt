use Rattle.spec.specs.Image.{objects}
use Rattle.store_records.proofs.counts.object_count.Goals as goal

pub returns : goal.returns
unfolding objects
returns c = c.get_u32.ensures
