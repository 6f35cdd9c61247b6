use Rattle.spec.specs.Image.{stamp}
use Rattle.store_records.proofs.counts.stamp_of.Goals as goal

pub returns : goal.returns
unfolding stamp
returns c = c.get_u32.ensures
