-- The way up from an object. Assumes nothing.
use Prim.Native.Nat.{ℕ, ◌+◌, ◌≤◌}
use mathlib.Core.Path.{◌≡◌, refl, ap, ◌∙◌}
use mathlib.Core.Bool.{false}
use native.Mathlib.Decide.{le_ind}
use native.Mathlib.Numerals.{add-one}
use lib.Dec.{eqb}
use borrow.Author.Tests.{ne_eqb}
use Rattle.spec.specs.Count.{iterate, some_below}
use Rattle.spec.specs.Image.{Store}
use Rattle.spec.specs.Room.{parent, above}

-- one step more
pub above_more : (s : Store) (k o : ℕ) → above s (k + 1) o ≡ parent s (above s k o)
unfolding above iterate
above_more s k o = rw add-one

-- where a step stays in its place, and none before came to o, none comes to o
pub way_ended : (s : Store) (o d k n : ℕ) → parent s (above s k d) ≡ above s k d → some_below k (λ j. eqb (above s j d) o) ≡ false
    → (above s k d ≡ o → ⊥) → k ≤ n → some_below n (λ j. eqb (above s j d) o) ≡ false
unfolding some_below above iterate
way_ended s o d k n stays none other h =
    (le_ind (λ (m : ℕ). (above s m d ≡ above s k d) × (some_below m (λ j. eqb (above s j d) o) ≡ false)) (refl, none)
    (λ m l q. (ap (parent s) q.0 ∙ stays, rw (q.1, q.0, ne_eqb (above s k d) o other))) n h).1
