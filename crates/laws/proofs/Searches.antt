-- Counts and searches in which nothing passes, and steps that stay where they are. Assumes nothing.
use mathlib.Core.Path.{◌≡◌, refl, sym, ap, ◌∙◌}
use mathlib.Core.Bool.{Bool, false}
use mathlib.Core.Option.{none}
use mathlib.Core.List.{[]}
use Prim.Native.Nat.{ℕ, zero, suc, ◌+◌, ◌<◌}
use Rattle.spec.specs.Count.{bit, sum, count, passing, first, lowest, iterate}
use native.Mathlib.Decide.{ℕ_discrete}
use mathlib.Core.Logic.{◌≢◌, by_cases}
use native.Mathlib.Omega.{arith}
use Rattle.laws.proofs.Count.{sum_ext, sum_zero, passing_ext}

pub count_ext : (n : ℕ) (p q : ℕ → Bool) → ((i : ℕ) → i < n → p i ≡ q i) → count n p ≡ count n q
count_ext n p q f = sum_ext n (λ i. bit (p i)) (λ i. bit (q i)) (λ i l. ap bit (f i l))

pub count_nothing : (n : ℕ) (p : ℕ → Bool) → ((i : ℕ) → i < n → p i ≡ false) → count n p ≡ 0
count_nothing n p f = sum_zero n (λ i. bit (p i)) (λ i l. ap bit (f i l))

pub passing_nothing : (n : ℕ) (p : ℕ → Bool) → ((i : ℕ) → i < n → p i ≡ false) → passing n p ≡ []
unfolding passing
passing_nothing n p f = passing_ext p (λ _. false) n f ∙ none_pass n
  where
    none_pass : (m : ℕ) → passing m (λ _. false) ≡ []
    none_pass zero = refl
    none_pass (suc m) = rw (none_pass m)

pub lowest_nothing : (n : ℕ) (p : ℕ → Bool) → ((i : ℕ) → i < n → p i ≡ false) → lowest n p ≡ none
unfolding lowest
lowest_nothing n p f = ap first (passing_nothing n p f)

-- a place that a step does not leave is not left by any number of steps
pub iterate_fixed : (n : ℕ) (f : ℕ → ℕ) (x : ℕ) → f x ≡ x → iterate n f x ≡ x
unfolding iterate
iterate_fixed zero f x e = refl
iterate_fixed (suc n) f x e = ap f (iterate_fixed n f x e) ∙ e

pub iterate_ext : (n : ℕ) (f g : ℕ → ℕ) (x : ℕ) → ((y : ℕ) → f y ≡ g y) → iterate n f x ≡ iterate n g x
unfolding iterate
iterate_ext zero f g x e = refl
iterate_ext (suc n) f g x e = e (iterate n f x) ∙ ap g (iterate_ext n f g x e)

-- one place below the bound changes
pub sum_upd_below : (n o : ℕ) (f g : ℕ → ℕ) → o < n → ((i : ℕ) → i < n → i ≢ o → g i ≡ f i) → sum n g + f o ≡ sum n f + g o
unfolding sum
sum_upd_below zero o f g l h = absurd (omega arith)
sum_upd_below (suc n) o f g l h =
    by_cases (ℕ_discrete o n)
    (λ e. let r = sum_ext n g f (λ i k. h i (omega arith) (λ q. omega arith)) in let a = ap f e in let b = ap g e in omega arith)
    (λ d. let r = sum_upd_below n o f g (omega arith) (λ i k q. h i (omega arith) q) in let a = h n (omega arith) (λ e. d (sym e)) in omega arith)
