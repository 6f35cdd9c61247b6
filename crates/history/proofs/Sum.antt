-- Further laws of the sums of spec, and tests that are decided as 1 and 0. Assumes nothing.
use mathlib.Core.Path.{◌≡◌, refl, sym, ap}
use mathlib.Core.Logic.{◌≢◌, by_cases, ite, if_pos, if_neg}
use mathlib.Core.Bool.{Bool, true, false, ◌||◌}
use Prim.Native.Nat.{ℕ, zero, suc, ◌≤◌, ◌<◌}
use native.Mathlib.Nat.{not-suc-le-zero}
use native.Mathlib.Decide.{ℕ_discrete, dec_lt}
use native.Mathlib.Omega.{arith}
use Rattle.spec.specs.Count.{bit, sum}
use Rattle.laws.proofs.Count.{sum_upd, true_false}

-- a decided test, as the Bool that spec counts
abbrev pub holds : {A : Type 0} → Dec A → Bool
holds (yes a) = true
holds (no n) = false

-- 1 where the test holds, else 0
abbrev pub ind : {A : Type 0} → Dec A → ℕ
ind d = bit (holds d)

pub ind_yes : {A : Type 0} (d : Dec A) → A → ind d ≡ 1
ind_yes (yes a) x = refl
ind_yes (no n) x = absurd (n x)

pub ind_no : {A : Type 0} (d : Dec A) → ¬ A → ind d ≡ 0
ind_no (yes a) x = absurd (x a)
ind_no (no n) x = refl

pub ind_true : {A : Type 0} (d : Dec A) → 0 < ind d → A
ind_true (yes a) h = a
ind_true (no n) h = absurd (not-suc-le-zero h)

pub ind_le : {A : Type 0} (d : Dec A) → ind d ≤ 1
ind_le (yes a) = omega arith
ind_le (no n) = omega arith

-- two tests that say the same count the same
pub ind_same : {A B : Type 0} (d : Dec A) (e : Dec B) → (A → B) → (B → A) → ind d ≡ ind e
ind_same (yes a) e f g = sym (ind_yes e (f a))
ind_same (no n) e f g = sym (ind_no e (λ b. n (g b)))

-- a decided test and a Bool that say the same
pub holds_same : {A : Type 0} (d : Dec A) (t : Bool) → (A → t ≡ true) → (t ≡ true → A) → holds d ≡ t
holds_same (yes a) t f g = sym (f a)
holds_same (no n) true f g = absurd (n (g refl))
holds_same (no n) false f g = refl

pub holds_true : {A : Type 0} (d : Dec A) → holds d ≡ true → A
holds_true (yes a) h = a
holds_true (no n) h = true_false (sym h)

pub holds_yes : {A : Type 0} (d : Dec A) → A → holds d ≡ true
holds_yes (yes a) x = refl
holds_yes (no n) x = absurd (n x)

-- one of two tests holds
pub or_left : (t u : Bool) → t ≡ true → t || u ≡ true
or_left t u e = ap (λ (b : Bool). b || u) e

pub or_right : (t u : Bool) → u ≡ true → t || u ≡ true
or_right true u e = refl
or_right false u e = e

pub sum_find : (n : ℕ) (f : ℕ → ℕ) → 0 < sum n f → (i : ℕ) × (i < n) × (0 < f i)
unfolding sum
sum_find zero f h = absurd (not-suc-le-zero h)
sum_find (suc n) f h = by_cases (dec_lt 0 (f n))
    (λ p. (n, omega arith, p))
    (λ x. let r = sum_find n f (omega arith) in (r.0, omega arith, r.2))

-- f, with 0 at o
abbrev pub less : (ℕ → ℕ) → ℕ → ℕ → ℕ
less f o i = ite (ℕ_discrete i o) 0 (f i)

less_other : (f : ℕ → ℕ) (o i : ℕ) → i ≢ o → less f o i ≡ f i
less_other f o i x = if_neg (ℕ_discrete i o) x 0 (f i)

less_same : (f : ℕ → ℕ) (o : ℕ) → less f o o ≡ 0
less_same f o = if_pos (ℕ_discrete o o) refl 0 (f o)

-- k places that differ, each counting at least 1
pub pigeon : (k n : ℕ) (f : ℕ → ℕ) (a : ℕ → ℕ) → ((j : ℕ) → j < k → (a j < n) × (0 < f (a j)))
    → ((i j : ℕ) → i < j → j < k → a i ≢ a j) → k ≤ sum n f
pigeon zero n f a h d = omega arith
pigeon (suc k) n f a h d =
    let hk = h k (omega arith) in
    let r : k ≤ sum n (less f (a k)) = pigeon k n (less f (a k)) a
    (λ j l. let hj = h j (omega arith) in (hj.0, omega (arith, less_other f (a k) (a j) (d j k l (omega arith)))))
    (λ i j p l. d i j p (omega arith)) in
    omega (arith, sum_upd n (a k) f (less f (a k)) hk.0 (less_other f (a k)), less_same f (a k))

pub sum_const : (n : ℕ) → sum n (λ i. 1) ≡ n
unfolding sum
sum_const zero = refl
sum_const (suc n) = omega (arith, sum_const n)
