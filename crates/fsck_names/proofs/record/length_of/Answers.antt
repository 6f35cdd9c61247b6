use Rattle.spec.specs.Image.{name_at, name_from, name_length}
use Rattle.fsck_names.proofs.record.length_of.Goals as goal

pub returns : goal.returns
unfolding name_at name_from name_length
returns c = cc
