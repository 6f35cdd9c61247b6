-- Texts that are decided the same, and how often a number stands in a list. Assumes nothing.
use mathlib.Core.Path.{◌≡◌, refl, sym, ap, ◌∙◌, subst}
use mathlib.Core.Logic.{◌≢◌, by_cases}
use mathlib.Core.Bool.{Bool, true, cond}
use mathlib.Core.List.{List, [], ◌∷◌}
use Prim.Native.Nat.{ℕ, suc, ◌<◌}
use native.Mathlib.Decide.{ℕ_discrete}
use native.Mathlib.Nat.{not-suc-le-zero}
use native.Mathlib.Omega.{arith}
use lib.Dec.{eqb}
use lib.ListN.{length, get_or}
use borrow.Author.Tests.{eq-eqb, ne_eqb}
use Rattle.spec.specs.Bytes.{same_bytes}
use Rattle.laws.proofs.Bytes.{same_no}
use Rattle.laws.proofs.Count.{true_false}
use Rattle.spec.specs.Count.{bit, times}

-- two lists of bytes are the same
both? : {x y : ℕ} {xs ys : List ℕ} → Dec (x ≡ y) → Dec (xs ≡ ys) → Dec (◌≡◌ {A = List ℕ} (x ∷ xs) (y ∷ ys))
both? (yes a) (yes b) = yes (λ i. a i ∷ b i)
both? (no a) b = no (λ e. a (cc))
both? (yes a) (no b) = no (λ e. b (cc))

pub text? : (a b : List ℕ) → Dec (a ≡ b)
text? [] [] = yes refl
text? [] (y ∷ ys) = no (λ e. let z : ◌≡◌ {A = ℕ} 0 1 = cc in omega arith)
text? (x ∷ xs) [] = no (λ e. let z : ◌≡◌ {A = ℕ} 0 1 = cc in omega arith)
text? (x ∷ xs) (y ∷ ys) = both? (ℕ_discrete x y) (text? xs ys)

pub same_true : (xs ys : List ℕ) → same_bytes xs ys ≡ true → xs ≡ ys
same_true xs ys e = by_cases (text? xs ys) (λ p. p) (λ n. true_false (sym e ∙ same_no xs ys n))

abbrev pub All : {A : Type 0} → (A → Type 0) → List A → Type 0
All P [] = Unit {0}
All P (x ∷ xs) = P x × All P xs

pub all_times : {P : ℕ → Type 0} (xs : List ℕ) → ((a : ℕ) → 0 < times a xs → P a) → All P xs
unfolding times
all_times [] h = tt
all_times (x ∷ xs) h = (h x (omega (arith, ap bit (eq-eqb x x refl))), all_times xs (λ a l. h a (omega arith)))

pub times_all : (P : ℕ → Type 0) (xs : List ℕ) (a : ℕ) → All P xs → 0 < times a xs → P a
unfolding times
times_all P [] a h l = absurd (not-suc-le-zero l)
times_all P (x ∷ xs) a h l = by_cases (ℕ_discrete x a)
    (λ e. subst P e h.0)
    (λ n. times_all P xs a h.1 (omega (arith, ap bit (ne_eqb x a n))))

-- a number's place in a list
pub times_place : (a d : ℕ) (xs : List ℕ) → 0 < times a xs → (k : ℕ) × (k < length xs) × (get_or xs k d ≡ a)
unfolding times
times_place a d [] l = absurd (not-suc-le-zero l)
times_place a d (x ∷ xs) l = by_cases (ℕ_discrete x a)
    (λ e. (0, omega arith, e))
    (λ n. let r = times_place a d xs (omega (arith, ap bit (ne_eqb x a n))) in (suc r.0, omega (arith, r.1), r.2))

-- xs without a
unfoldable pub without : ℕ → List ℕ → List ℕ
without a [] = []
without a (x ∷ xs) = cond (eqb x a) (without a xs) (x ∷ without a xs)

pub without_same : (a x : ℕ) (xs : List ℕ) → x ≡ a → without a (x ∷ xs) ≡ without a xs
unfolding without
without_same a x xs e = ap (λ (b : Bool). cond b (without a xs) (x ∷ without a xs)) (eq-eqb x a e)

pub without_other : (a x : ℕ) (xs : List ℕ) → x ≢ a → without a (x ∷ xs) ≡ x ∷ without a xs
unfolding without
without_other a x xs n = ap (λ (b : Bool). cond b (without a xs) (x ∷ without a xs)) (ne_eqb x a n)

pub times_without : (a : ℕ) (xs : List ℕ) → times a (without a xs) ≡ 0
unfolding times without
times_without a [] = refl
times_without a (x ∷ xs) = let r = times_without a xs in by_cases (ℕ_discrete x a)
    (λ e. ap (times a) (without_same a x xs e) ∙ r)
    (λ n. ap (times a) (without_other a x xs n) ∙ omega (arith, ap bit (ne_eqb x a n)))

pub times_without_other : (a b : ℕ) → b ≢ a → (xs : List ℕ) → times b (without a xs) ≡ times b xs
unfolding times without
times_without_other a b d [] = refl
times_without_other a b d (x ∷ xs) = let r = times_without_other a b d xs in by_cases (ℕ_discrete x a)
    (λ e. ap (times b) (without_same a x xs e) ∙ omega (arith, ap bit (ne_eqb x b (λ f. d (sym f ∙ e)))))
    (λ n. ap (times b) (without_other a x xs n) ∙ omega arith)
