-- How many blocks are free: those that are not used, and so all but those that sizes need. Assumes nothing.
use mathlib.Core.Path.{◌≡◌, refl, sym, ap, ◌∙◌}
use mathlib.Core.Logic.{◌≢◌, by_cases}
use mathlib.Core.List.{List, [], ◌∷◌}
use Prim.Native.Nat.{ℕ, zero, suc, ◌+◌, ◌≤◌, ◌<◌}
use native.Mathlib.Omega.{arith}
use native.Mathlib.Decide.{ℕ_discrete}
use lib.Dec.{eqb}
use lib.ListN.{length, take, drop, take-append-drop}
use borrow.Author.Tests.{eqb-true, eqb-false, eq-eqb, ne_eqb}
use Rattle.spec.specs.Count.{bit, sum, times}
use Rattle.spec.specs.Image.{Store, objects, blocks}
use Rattle.spec.specs.Room.{held, uses, is_free_block, free_blocks, free_block_count}
use Rattle.laws.proofs.BlockLists.{InRange}
use Rattle.laws.proofs.Count.{by_bool, sum_ext, sum_add, sum_zero, times_append, times_passing}
use Rattle.laws.proofs.Valid.{BlocksUsedOnce}

-- ---- sums
sum_ones : (n : ℕ) → sum n (λ _. 1) ≡ n
unfolding sum
sum_ones zero = refl
sum_ones (suc n) = omega (arith, sum_ones n)

pub sum_swap : (m n : ℕ) (f : ℕ → ℕ → ℕ) → sum m (λ i. sum n (f i)) ≡ sum n (λ j. sum m (λ i. f i j))
unfolding sum
sum_swap zero n f = sym (sum_zero n (λ _. 0) (λ j _. refl))
sum_swap (suc m) n f =
    ap (λ (k : ℕ). sum n (f m) + k) (sum_swap m n f) ∙ sym (sum_add n (f m) (λ j. sum m (λ i. f i j)))

-- exactly one number below n is x
sum_one : (n x : ℕ) → x < n → sum n (λ r. bit (eqb x r)) ≡ 1
unfolding sum
sum_one zero x h = absurd (omega arith)
sum_one (suc n) x h =
    by_cases (ℕ_discrete x n)
    (λ (e : x ≡ n). let z : sum n (λ r. bit (eqb x r)) ≡ 0 = sum_zero n (λ r. bit (eqb x r)) (λ r (l : r < n). ap bit (ne_eqb x r (λ q. omega arith))) in
    rw (z, eq-eqb x n e))
    (λ (d : x ≢ n). rw (sum_one n x (omega arith), ne_eqb x n d))

-- each number of a list in range is counted once
pub times_total : (n : ℕ) (xs : List ℕ) → InRange n xs → sum n (λ r. times r xs) ≡ length xs
unfolding times
times_total n [] f = sum_zero n (λ _. 0) (λ r _. refl)
times_total n (x ∷ xs) f =
    sum_add n (λ r. bit (eqb x r)) (λ r. times r xs)
    ∙ omega (arith, sum_one n x (f 0 (omega arith)), times_total n xs (λ k l. f (suc k) (omega arith)))

pub times_take : (r n : ℕ) (xs : List ℕ) → times r (take n xs) + times r (drop n xs) ≡ times r xs
times_take r n xs = sym (times_append r (take n xs) (drop n xs)) ∙ ap (times r) (take-append-drop n xs)

-- ---- the free blocks
pub free_times : (s : Store) (r : ℕ) → r < blocks s → times r (free_blocks s) ≡ bit (is_free_block s r)
unfolding free_blocks
free_times s r l = times_passing (is_free_block s) (blocks s) r l

-- a block is among the free ones or is used
pub free_or_used : (s : Store) (r : ℕ) → r < blocks s → uses s r ≤ 1 → times r (free_blocks s) + uses s r ≡ 1
unfolding is_free_block
free_or_used s r l h =
    by_bool (eqb (uses s r) 0)
    (λ e. omega (arith, eqb-true (uses s r) 0 e, free_times s r l, ap bit e))
    (λ e. omega (arith, eqb-false (uses s r) 0 e, free_times s r l, ap bit e))

pub free_and_used : (s : Store) → BlocksUsedOnce s → free_block_count s + sum (blocks s) (uses s) ≡ blocks s
unfolding free_block_count
free_and_used s h =
    sym (sum_add (blocks s) (λ r. bit (is_free_block s r)) (uses s))
    ∙ sum_ext (blocks s) (λ r. bit (is_free_block s r) + uses s r) (λ _. 1) (λ r l. omega (arith, free_or_used s r l (h r l), free_times s r l))
    ∙ sum_ones (blocks s)

-- all uses are the blocks that objects have
pub uses_total : (s : Store) → ((o : ℕ) → o < objects s → InRange (blocks s) (held s o)) → sum (blocks s) (uses s) ≡ sum (objects s) (λ o. length (held s o))
unfolding uses
uses_total s f =
    sum_swap (blocks s) (objects s) (λ r o. times r (held s o))
    ∙ sum_ext (objects s) (λ o. sum (blocks s) (λ r. times r (held s o))) (λ o. length (held s o)) (λ o l. times_total (blocks s) (held s o) (f o l))

-- ---- one object's blocks change
pub free_count_set : (s t : Store) (o : ℕ) → BlocksUsedOnce s → BlocksUsedOnce t → blocks t ≡ blocks s
    → ((r : ℕ) → uses t r + times r (held s o) ≡ uses s r + times r (held t o))
    → InRange (blocks s) (held s o) → InRange (blocks s) (held t o)
    → free_block_count t + length (held t o) ≡ free_block_count s + length (held s o)
free_count_set s t o h k e f a b =
    let n = blocks s in
    let x = free_and_used s h in
    let y : free_block_count t + sum n (uses t) ≡ n = rw e at (free_and_used t k) in
    let z : sum n (uses t) + sum n (λ r. times r (held s o)) ≡ sum n (uses s) + sum n (λ r. times r (held t o)) =
    sym (sum_add n (uses t) (λ r. times r (held s o)))
    ∙ sum_ext n (λ r. uses t r + times r (held s o)) (λ r. uses s r + times r (held t o)) (λ r _. f r)
    ∙ sum_add n (uses s) (λ r. times r (held t o)) in
    omega (arith, times_total n (held s o) a, times_total n (held t o) b)
