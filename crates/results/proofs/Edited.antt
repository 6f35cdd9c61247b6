-- What is shown after an edit of the store. Assumes nothing.
use Prim.Native.Nat.{ℕ, ◌<◌}
use mathlib.Core.Path.{◌≡◌}
use native.Mathlib.Omega.{arith}
use Rattle.kinds.specs.declared.numbers.ObjectNumber.{ObjectNumber}
use Rattle.kinds.specs.declared.object.Before.{Before}
use Rattle.spec.specs.Handles.{before, change}
use Rattle.spec.specs.Image.{Store, objects}
use Rattle.laws.proofs.GoodRecords.{StillGood}
use Rattle.results.specs.Meaning.{change_in}
use Rattle.results.specs.Writable.{Showable}

-- the store u is t, which came from s
pub still_showable : (s t u : Store) (d : ℕ) → StillGood s t → d < objects s → u ≡ t → Showable u d
still_showable s t u d a l e = rw e (record { good = a.good; object = omega (arith, a.shape.objects) })

-- a change is made of what was read before, and of the store that is left
pub change_made : (s t u : Store) (d : ObjectNumber) (b : Before) → b ≡ before s d.0 → u ≡ t → change_in u (record { before = b; object = d })
    ≡ change s t d.0
unfolding change
change_made s t u d b e g = rw (e, g)
