-- In a store that passes its check, a name record is told by what it names, and by its directory and name. Assumes nothing.
use mathlib.Core.Path.{◌≡◌, refl, sym, ap, ◌∙◌}
use mathlib.Core.Logic.{◌≢◌, by_cases}
use mathlib.Core.Bool.{Bool, true}
use Prim.Native.Nat.{ℕ, zero, suc, ◌+◌, ◌≤◌, ◌<◌}
use native.Mathlib.Omega.{arith}
use native.Mathlib.Decide.{ℕ_discrete}
use lib.Dec.{eqb}
use borrow.Author.Tests.{eq-eqb}
use Rattle.spec.specs.Count.{bit, sum, count}
use Rattle.spec.specs.Image.{Store, names, name_at}
use Rattle.spec.specs.Room.{is_used_name, is_naming, namings}
use Rattle.laws.proofs.Count.{sum_at}
use Rattle.laws.proofs.Tests.{and_true}
use Rattle.laws.proofs.Valid.{Used, true_used}

-- two terms are at most the sum
pub sum_two : (n i j : ℕ) (f : ℕ → ℕ) → i < n → j < n → i ≢ j → f i + f j ≤ sum n f
unfolding sum
sum_two zero i j f a b d = absurd (omega arith)
sum_two (suc n) i j f a b d =
    by_cases (ℕ_discrete i n)
    (λ e. by_cases (ℕ_discrete j n)
    (λ q. absurd (d (e ∙ sym q)))
    (λ q. let r = sum_at n j f (omega arith) in omega (arith, ap f e)))
    (λ e. by_cases (ℕ_discrete j n)
    (λ q. let r = sum_at n i f (omega arith) in omega (arith, ap f q))
    (λ q. let r = sum_two n i j f (omega arith) (omega arith) d in omega arith))

-- of a test that at most one number passes
pub one_passes : (n : ℕ) (p : ℕ → Bool) (i j : ℕ) → count n p ≤ 1 → i < n → j < n → p i ≡ true → p j ≡ true → i ≡ j
one_passes n p i j h a b t u =
    by_cases (ℕ_discrete i j) (λ e. e)
    (λ d. absurd (omega (arith, sum_two n i j (λ k. bit (p k)) a b d, ap bit t, ap bit u)))

naming_true : (s : Store) (o n : ℕ) → Used s n → (name_at s n).child ≡ o → is_naming s o n ≡ true
unfolding is_naming
naming_true s o n u e = and_true (is_used_name s n) (eqb (name_at s n).child o) (true_used s n u) (eq-eqb (name_at s n).child o e)

-- a used record of an object that has one name is the only one
pub one_naming : (s : Store) (n m : ℕ) → namings s (name_at s n).child ≤ 1 → n < names s → m < names s → Used s n → Used s m
    → (name_at s n).child ≡ (name_at s m).child → n ≡ m
unfolding namings
one_naming s n m h a b u w e =
    let o = (name_at s n).child in
    one_passes (names s) (is_naming s o) n m h a b (naming_true s o n u refl) (naming_true s o m w (sym e))
