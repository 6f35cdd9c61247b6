-- What tests joined by "and", "or" and "not" tell, and when they hold. Assumes nothing.
use mathlib.Core.Path.{◌≡◌, refl, sym}
use mathlib.Core.Logic.{◌⊎◌}
use mathlib.Core.Bool.{Bool, true, false, ◌&&◌, ◌||◌, not}
use Prim.Native.Nat.{ℕ, ◌<◌}
use native.Mathlib.Omega.{arith}
use lib.Dec.{eqb}
use borrow.Author.Tests.{eqb-true, eqb-false, eq-eqb, ne_eqb}
use Rattle.laws.proofs.Count.{true_false}

pub and_true : (t u : Bool) → t ≡ true → u ≡ true → t && u ≡ true
and_true t u e f = rw (e, f)

-- one of two tests of which one holds
pub or_one : (t u : Bool) → t || u ≡ true → (t ≡ true) ⊎ (u ≡ true)
or_one true u e = ◌⊎◌.inl refl
or_one false u e = ◌⊎◌.inr e

-- neither of two tests of which none holds
pub or_none : (t u : Bool) → t || u ≡ false → (t ≡ false) × (u ≡ false)
or_none true u e = true_false e
or_none false u e = (refl, e)

not_or : (t u : Bool) → not (t || u) ≡ not t && not u
not_or true u = refl
not_or false u = refl

-- a loop that reads on where a test fails, and remembers it: so far all pass, and so does the next, or not
pub remember : (seen wrong all good : Bool) → not seen ≡ all → not wrong ≡ good → not (seen || wrong) ≡ all && good
remember seen wrong all good e f = rw (not_or seen wrong, e, f)

-- of "not, or": where the first holds, so does the second; and the other way
pub implied : (t u : Bool) → not t || u ≡ true → t ≡ true → u ≡ true
implied true u e h = e
implied false u e h = true_false (sym h)

pub implies : (t u : Bool) → (t ≡ true → u ≡ true) → not t || u ≡ true
implies true u f = f refl
implies false u f = refl

-- a number that is 0 or not
pub nonzero_true : (n : ℕ) → not (eqb n 0) ≡ true → 0 < n
nonzero_true n e = omega (arith, eqb-false n 0 (by_not (eqb n 0) e))
  where
    by_not : (t : Bool) → not t ≡ true → t ≡ false
    by_not true f = true_false (sym f)
    by_not false f = refl

pub nonzero_false : (n : ℕ) → not (eqb n 0) ≡ false → n ≡ 0
nonzero_false n e = eqb-true n 0 (by_not (eqb n 0) e)
  where
    by_not : (t : Bool) → not t ≡ false → t ≡ true
    by_not true f = refl
    by_not false f = true_false f

pub true_nonzero : (n : ℕ) → 0 < n → not (eqb n 0) ≡ true
true_nonzero n h = rw (ne_eqb n 0 (λ e. omega arith))

pub false_nonzero : (n : ℕ) → n ≡ 0 → not (eqb n 0) ≡ false
false_nonzero n h = rw (eq-eqb n 0 h)
