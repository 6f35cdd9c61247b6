-- A count that a test adds to. Assumes nothing.
use Prim.Native.Nat.{ℕ, ◌+◌, ◌≤◌}
use mathlib.Core.Path.{◌≡◌, refl, ◌∙◌}
use mathlib.Core.Bool.{Bool, true, false}
use native.Mathlib.Omega.{arith}
use Rattle.std.specs.Int.{from_bool}
use Rattle.spec.specs.Count.{bit, count}
use Rattle.laws.proofs.Count.{count_more}

bool_bit : (t : Bool) → from_bool t ≡ bit t
bool_bit true = refl
bool_bit false = refl

-- it stays a count, and grows by at most one
pub counted : (p : ℕ → Bool) (i k r : ℕ) (t : Bool) → k ≡ count i p → k ≤ i → r ≡ from_bool t → t ≡ p i
    → (k + r ≤ i + 1) × (k + r ≡ count (i + 1) p)
counted p i k r t e l q b = (omega (arith, q, small t), count_more p i k r t e (q ∙ bool_bit t) b)
  where
    small : (u : Bool) → from_bool u ≤ 1
    small true = omega arith
    small false = omega arith
