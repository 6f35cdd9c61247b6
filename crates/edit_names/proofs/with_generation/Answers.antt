use mathlib.Core.Path.{refl}
use Rattle.spec.specs.Edits.{with_generation}
use Rattle.edit_names.proofs.with_generation.Goals as goal

pub returns : goal.returns
unfolding with_generation
returns c = refl
