-- The zero words of a failure with no live handle: how many there are at most. Assumes nothing.
use Prim.Native.Nat.{ℕ, zero, suc, ◌≤◌}
use mathlib.Core.Bool.{true}
use mathlib.Core.List.{List, [], ◌∷◌}
use mathlib.Core.Path.{◌≡◌, refl, ap}
use native.Mathlib.Nat.{not-suc-le-zero, le_of_suc-le-suc}
use native.Mathlib.Omega.{arith}
use lib.ListN.{get_or, take, replicate}
use lib.Dec.{leb}
use borrow.Author.Tests.{leb-true}
use Rattle.kinds.specs.Numbers.{zero_words}
use Rattle.spec.specs.Bytes.{all_bytes}
use Rattle.laws.proofs.Count.{and_both}

-- a table whose numbers are all at most n, as one computed test
small_at : (n : ℕ) (xs : List ℕ) → all_bytes (λ x. leb x n) xs ≡ true → (k : ℕ) → get_or xs k 0 ≤ n
unfolding all_bytes
small_at n [] e k = omega arith
small_at n (x ∷ xs) e zero = leb-true x n (and_both (leb x n) (all_bytes (λ y. leb y n) xs) e).0
small_at n (x ∷ xs) e (suc k) = small_at n xs (and_both (leb x n) (all_bytes (λ y. leb y n) xs) e).1 k

pub zero_words_small : (procedure : ℕ) → get_or zero_words procedure 0 ≤ 4
unfolding all_bytes
zero_words_small procedure = small_at 4 zero_words refl procedure

pub take_zeros : (n m : ℕ) → n ≤ m → take {A = ℕ} n (replicate m 0) ≡ replicate n 0
take_zeros zero m h = refl
take_zeros (suc n) zero h = absurd (not-suc-le-zero h)
take_zeros (suc n) (suc m) h = ap (λ (l : List ℕ). 0 ∷ l) (take_zeros n m (le_of_suc-le-suc h))
