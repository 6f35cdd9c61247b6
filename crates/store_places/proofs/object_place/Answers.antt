use mathlib.Core.Path.{refl}
use Rattle.store_places.proofs.object_place.Goals as goal

pub returns : goal.returns
returns c = refl
