-- Sums, counts and searches over the numbers below a bound. Every count of the store is one of these.
use Rattle.std.specs.Prelude.{ℕ, zero, suc, ◌+◌, List, [], ◌∷◌, ◌++◌, Bool, true, false, ◌&&◌, ◌||◌, cond, eqb}
use Rattle.std.proofs.Math.Option.{Option, some, none}

-- 1 where a test holds, else 0
abbrev pub bit : Bool → ℕ
bit true = 1
bit false = 0

-- f 0 + .. + f (n - 1)
unfoldable pub sum : ℕ → (ℕ → ℕ) → ℕ
sum zero f = 0
sum (suc n) f = f n + sum n f

-- how many numbers below n pass p
abbrev pub count : ℕ → (ℕ → Bool) → ℕ
count n p = sum n (λ i. bit (p i))

-- whether every number below n passes p
unfoldable pub every : ℕ → (ℕ → Bool) → Bool
every zero p = true
every (suc n) p = every n p && p n

-- whether some number below n passes p
unfoldable pub some_below : ℕ → (ℕ → Bool) → Bool
some_below zero p = false
some_below (suc n) p = some_below n p || p n

-- the numbers below n that pass p, lowest first
unfoldable pub passing : ℕ → (ℕ → Bool) → List ℕ
passing zero p = []
passing (suc n) p = passing n p ++ cond (p n) (n ∷ []) []

abbrev pub first : List ℕ → Option ℕ
first [] = none
first (x ∷ xs) = some x

-- the lowest number below n that passes p
unfoldable pub lowest : ℕ → (ℕ → Bool) → Option ℕ
lowest n p = first (passing n p)

-- how often r stands in a list
unfoldable pub times : ℕ → List ℕ → ℕ
times r [] = 0
times r (x ∷ xs) = bit (eqb x r) + times r xs

-- f applied n times to x
unfoldable pub iterate : ℕ → (ℕ → ℕ) → ℕ → ℕ
iterate zero f x = x
iterate (suc n) f x = f (iterate n f x)
