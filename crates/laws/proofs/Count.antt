-- The laws of sums, counts and searches over the numbers below a bound. Assumes nothing.
use mathlib.Core.Path.{◌≡◌, refl, sym, ap, ap₂, ◌∙◌}
use mathlib.Core.Logic.{◌≢◌, by_cases, ⊎_elim}
use mathlib.Core.Bool.{Bool, true, false, ◌&&◌, cond, or-true, and-false}
use mathlib.Core.Option.{some, none}
use mathlib.Core.List.{List, [], ◌∷◌, ◌++◌, append-nil}
use Prim.Native.Nat.{ℕ, zero, suc, ◌+◌, ◌*◌, ◌≤◌, ◌<◌}
use native.Mathlib.Nat.{add-mul, not-suc-le-zero}
use native.Mathlib.Decide.{ℕ_discrete, dec_lt, le_ind}
use native.Mathlib.Numerals.{add-one}
use native.Mathlib.Omega.{arith}
use lib.Dec.{eqb}
use lib.ListN.{length, take, get_or, length-append, get_or-append}
use lib.Seq.{take-append-le, take-length, get_or-append_seam}
use borrow.Author.Tests.{eq-eqb, ne_eqb}
use Rattle.laws.proofs.Bytes.{lt_or_le}
use Rattle.spec.specs.Count.{bit, sum, count, every, some_below, passing, first, lowest, times}

-- ---- Bools
pub true_false : {A : Type 0} → true ≡ false → A
true_false e = let z : ◌≡◌ {A = ℕ} 0 1 = cc in absurd (omega arith)

pub by_bool : {A : Type 0} (t : Bool) → (t ≡ true → A) → (t ≡ false → A) → A
by_bool true f g = f refl
by_bool false f g = g refl

-- both of two tests that hold together
pub and_both : (t u : Bool) → t && u ≡ true → (t ≡ true) × (u ≡ true)
and_both true u e = (refl, e)
and_both false u e = true_false (sym e)

-- ---- sums
pub sum_ext : (n : ℕ) (f g : ℕ → ℕ) → ((i : ℕ) → i < n → f i ≡ g i) → sum n f ≡ sum n g
unfolding sum
sum_ext zero f g h = refl
sum_ext (suc n) f g h = ap₂ (λ (x y : ℕ). x + y) (h n (omega arith)) (sum_ext n f g (λ i l. h i (omega arith)))

-- one place changes
pub sum_upd : (n o : ℕ) (f g : ℕ → ℕ) → o < n → ((i : ℕ) → i ≢ o → g i ≡ f i) → sum n g + f o ≡ sum n f + g o
unfolding sum
sum_upd zero o f g l h = absurd (not-suc-le-zero l)
sum_upd (suc n) o f g l h =
    by_cases (ℕ_discrete o n)
    (λ e. let r = sum_ext n g f (λ i k. h i (omega arith)) in let a = ap f e in let b = ap g e in omega arith)
    (λ d. let r = sum_upd n o f g (omega arith) h in let a = h n (λ e. d (sym e)) in omega arith)

-- one number more
pub sum_more : (i : ℕ) (f : ℕ → ℕ) → sum (i + 1) f ≡ f i + sum i f
unfolding sum
sum_more i f = rw add-one

pub sum_add : (n : ℕ) (f g : ℕ → ℕ) → sum n (λ i. f i + g i) ≡ sum n f + sum n g
unfolding sum
sum_add zero f g = refl
sum_add (suc n) f g = let r = sum_add n f g in omega arith

-- a term is at most the sum, and where every term is 0 the sum is 0
pub sum_at : (n i : ℕ) (f : ℕ → ℕ) → i < n → f i ≤ sum n f
unfolding sum
sum_at zero i f l = absurd (not-suc-le-zero l)
sum_at (suc n) i f l =
    by_cases (ℕ_discrete i n) (λ e. let a = ap f e in omega arith) (λ d. let r = sum_at n i f (omega arith) in omega arith)

pub sum_zero : (n : ℕ) (f : ℕ → ℕ) → ((i : ℕ) → i < n → f i ≡ 0) → sum n f ≡ 0
unfolding sum
sum_zero zero f h = refl
sum_zero (suc n) f h = let r = sum_zero n f (λ i l. h i (omega arith)) in let e = h n (omega arith) in omega arith

-- a sum over fewer numbers is no larger; nor is one whose terms are at most c where a test holds and else 0, than c for each number that passes
pub sum_fewer : (f : ℕ → ℕ) (k n : ℕ) → k ≤ n → sum k f ≤ sum n f
unfolding sum
sum_fewer f k n h = le_ind (λ (m : ℕ). sum k f ≤ sum m f) (omega arith) (λ m l q. omega arith) n h

pub sum_most : (f : ℕ → ℕ) (p : ℕ → Bool) (c n : ℕ) → ((i : ℕ) → f i ≤ bit (p i) * c) → sum n f ≤ count n p * c
unfolding sum
sum_most f p c zero h = omega arith
sum_most f p c (suc n) h = rw (add-mul (bit (p n)) (count n p) c) (let r = sum_most f p c n h in let e = h n in omega arith)

-- a count whose next number passes or not
pub count_more : (p : ℕ → Bool) (i k r : ℕ) (t : Bool) → k ≡ count i p → r ≡ bit t → t ≡ p i → k + r ≡ count (i + 1) p
count_more p i k r t e q b = rw (q, b) (omega (arith, e, sum_more i (λ j. bit (p j))))

-- a count is at most the bound
pub count_bound : (n : ℕ) (p : ℕ → Bool) → count n p ≤ n
unfolding sum
count_bound zero p = omega arith
count_bound (suc n) p = let r = count_bound n p in let b = bit_bound (p n) in omega arith
  where
    bit_bound : (t : Bool) → bit t ≤ 1
    bit_bound true = omega arith
    bit_bound false = omega arith

-- one number passes, and no other
pub count_one : (p : ℕ → Bool) (q n : ℕ) → n < q → p n ≡ true → ((m : ℕ) → m < q → m ≢ n → p m ≡ false) → count q p ≡ 1
unfolding sum
count_one p zero n l e f = absurd (not-suc-le-zero l)
count_one p (suc q) n l e f =
    by_cases (ℕ_discrete n q)
    (λ (x : n ≡ q). let a = sum_zero q (λ i. bit (p i)) (λ i h. ap bit (f i (omega arith) (λ y. absurd (omega arith)))) in
    let b = ap bit (rw x at e) in omega arith)
    (λ (x : n ≢ q). let a = count_one p q n (omega arith) e (λ m h d. f m (omega arith) d) in
    let b = ap bit (f q (omega arith) (λ y. x (sym y))) in omega arith)

-- ---- every number passes
pub every_ext : (p q : ℕ → Bool) (n : ℕ) → ((i : ℕ) → i < n → p i ≡ q i) → every n p ≡ every n q
unfolding every
every_ext p q zero f = refl
every_ext p q (suc n) f = ap₂ (λ (t u : Bool). t && u) (every_ext p q n (λ i l. f i (omega arith))) (f n (omega arith))

module _ (p : ℕ → Bool) where
  pub every_more : (i : ℕ) → every i p ≡ true → p i ≡ true → every (i + 1) p ≡ true
  unfolding every
  every_more i e t = rw (add-one, e, t)

  pub every_next : (i : ℕ) → every (i + 1) p ≡ every i p && p i
  unfolding every
  every_next i = rw add-one

  pub every_fails : (i n : ℕ) → p i ≡ false → i < n → every n p ≡ false
  unfolding every
  every_fails i n t h = le_ind (λ (m : ℕ). every m p ≡ false) (rw t (and-false (every i p))) (λ m l q. rw q) n h

  pub every_at : (n i : ℕ) → every n p ≡ true → i < n → p i ≡ true
  every_at n i e h = by_bool (p i) (λ t. t) (λ t. true_false (sym e ∙ every_fails i n t h))

  pub every_all : (n : ℕ) → ((i : ℕ) → i < n → p i ≡ true) → every n p ≡ true
  unfolding every
  every_all zero f = refl
  every_all (suc n) f = rw (every_all n (λ i l. f i (omega arith)), f n (omega arith))

  -- ---- some number passes
  pub some_more : (i : ℕ) → some_below i p ≡ false → p i ≡ false → some_below (i + 1) p ≡ false
  unfolding some_below
  some_more i e t = rw (add-one, e, t)

  pub some_hit : (i n : ℕ) → p i ≡ true → i < n → some_below n p ≡ true
  unfolding some_below
  some_hit i n t h = le_ind (λ (m : ℕ). some_below m p ≡ true) (rw t (or-true (some_below i p))) (λ m l q. rw q) n h

  pub none_below : (n : ℕ) → ((i : ℕ) → i < n → p i ≡ false) → some_below n p ≡ false
  unfolding some_below
  none_below zero f = refl
  none_below (suc n) f = rw (none_below n (λ i l. f i (omega arith)), f n (omega arith))

  pub some_none : (n i : ℕ) → some_below n p ≡ false → i < n → p i ≡ false
  some_none n i e h = by_bool (p i) (λ t. true_false (sym (some_hit i n t h) ∙ e)) (λ t. t)

  -- ---- the numbers that pass
  pub passing_hit : (i : ℕ) → p i ≡ true → passing (i + 1) p ≡ passing i p ++ (i ∷ [])
  unfolding passing
  passing_hit i t = rw (add-one, t)

  pub passing_miss : (i : ℕ) → p i ≡ false → passing (i + 1) p ≡ passing i p
  unfolding passing
  passing_miss i t = rw (add-one, t) (append-nil (passing i p))

  cond_length : (t : Bool) (n : ℕ) → length (cond t (n ∷ []) []) ≡ bit t
  cond_length true n = refl
  cond_length false n = refl

  pub passing_length : (n : ℕ) → length (passing n p) ≡ count n p
  unfolding passing sum
  passing_length zero = refl
  passing_length (suc n) = simp (length-append, cond_length) (omega (arith, passing_length n))

  -- the numbers below i that pass come first among those below n
  pub passing_front : (i n : ℕ) → i ≤ n → take (length (passing i p)) (passing n p) ≡ passing i p
  unfolding passing
  passing_front i n h =
      (le_ind (λ (m : ℕ). (take (length (passing i p)) (passing m p) ≡ passing i p) × (length (passing i p) ≤ length (passing m p)))
      (take-length (passing i p), omega arith)
      (λ m (l : i ≤ m) q. (take-append-le (length (passing i p)) (passing m p) (cond (p m) (m ∷ []) []) q.1 ∙ q.0, simp length-append (omega arith)))
      n h).0

-- k is below n and passes
pub record Passes (p : ℕ → Bool) (n k : ℕ) : Type 0 where
  pub below : k < n
  pub passes : p k ≡ true

-- what stands at k of a list that gets n, where n passes
member_step : (p : ℕ → Bool) (n k : ℕ) (xs : List ℕ) (t : Bool) → p n ≡ t → ((j : ℕ) → j < length xs → Passes p n (get_or xs j 0))
    → k < length (xs ++ cond t (n ∷ []) []) → Passes p (suc n) (get_or (xs ++ cond t (n ∷ []) []) k 0)
member_step p n k xs true e f h =
    ⊎_elim
    (λ (l : k < length xs). let r = f k l in rw (get_or-append xs (n ∷ []) 0 k l) (record { below = omega arith; passes = r.passes }))
    (λ (l : length xs ≤ k). let q : k ≡ length xs = omega (arith, simp length-append at h) in
    rw (q, get_or-append_seam xs n [] 0) (record { below = omega arith; passes = e }))
    (lt_or_le k (length xs))
member_step p n k xs false e f h = let r = f k (rw append-nil at h) in rw append-nil (record { below = omega arith; passes = r.passes })

-- every member is below the bound and passes
pub passing_member : (p : ℕ → Bool) (n k : ℕ) → k < length (passing n p) → Passes p n (get_or (passing n p) k 0)
unfolding passing
passing_member p zero k h = absurd (not-suc-le-zero h)
passing_member p (suc n) k h = member_step p n k (passing n p) (p n) refl (passing_member p n) h

pub passing_ext : (p q : ℕ → Bool) (n : ℕ) → ((i : ℕ) → i < n → p i ≡ q i) → passing n p ≡ passing n q
unfolding passing
passing_ext p q zero f = refl
passing_ext p q (suc n) f =
    ap₂ (λ (l : List ℕ) (t : Bool). l ++ cond t (n ∷ []) []) (passing_ext p q n (λ i h. f i (omega arith))) (f n (omega arith))

-- ---- how often a number stands in a list
times_nothing : (r : ℕ) → times r [] ≡ 0
unfolding times
times_nothing r = refl

pub times_append : (r : ℕ) (xs ys : List ℕ) → times r (xs ++ ys) ≡ times r xs + times r ys
unfolding times
times_append r [] ys = omega arith
times_append r (x ∷ xs) ys = omega (arith, times_append r xs ys)

-- what stands in a list is counted there, and twice where it stands at two places
pub times_at : (a d : ℕ) (xs : List ℕ) (k : ℕ) → k < length xs → get_or xs k d ≡ a → 0 < times a xs
unfolding times
times_at a d [] k l e = absurd (omega arith)
times_at a d (x ∷ xs) zero l e = omega (arith, ap bit (eq-eqb x a e))
times_at a d (x ∷ xs) (suc k) l e = omega (arith, times_at a d xs k (omega arith) e)

pub times_two : (a d : ℕ) (xs : List ℕ) (k l : ℕ) → k < l → l < length xs → get_or xs k d ≡ a → get_or xs l d ≡ a → 1 < times a xs
unfolding times
times_two a d [] k l p q e f = absurd (omega arith)
times_two a d (x ∷ xs) zero zero p q e f = absurd (omega arith)
times_two a d (x ∷ xs) zero (suc l) p q e f = omega (arith, ap bit (eq-eqb x a e), times_at a d xs l (omega arith) f)
times_two a d (x ∷ xs) (suc k) zero p q e f = absurd (omega arith)
times_two a d (x ∷ xs) (suc k) (suc l) p q e f = omega (arith, times_two a d xs k l (omega arith) (omega arith) e f)

times_more : (r n : ℕ) (xs : List ℕ) (t : Bool) → times r (xs ++ cond t (n ∷ []) []) ≡ times r xs + bit (eqb n r && t)
unfolding times
times_more r n xs true = rw times_append (by_bool (eqb n r) (λ e. rw e) (λ e. rw e))
times_more r n xs false = rw append-nil (omega (arith, ap bit (and-false (eqb n r))))

times_behind : (p : ℕ → Bool) (n r : ℕ) → n ≤ r → times r (passing n p) ≡ 0
unfolding passing times
times_behind p zero r h = refl
times_behind p (suc n) r h = times_more r n (passing n p) (p n) ∙ rw (times_behind p n r (omega arith), ne_eqb n r (λ e. absurd (omega arith)))

-- a number below the bound stands once among those that pass, or not at all
pub times_passing : (p : ℕ → Bool) (n r : ℕ) → r < n → times r (passing n p) ≡ bit (p r)
unfolding passing
times_passing p zero r h = absurd (not-suc-le-zero h)
times_passing p (suc n) r h =
    times_more r n (passing n p) (p n)
    ∙ by_cases (ℕ_discrete n r)
    (λ (e : n ≡ r). rw (times_behind p n r (omega arith), eq-eqb n r e, e) (omega arith))
    (λ (d : n ≢ r). rw (ne_eqb n r d, times_passing p n r (lt_of_other d)) (omega arith))
  where
    lt_of_other : n ≢ r → r < n
    lt_of_other d = by_cases (dec_lt r n) (λ l. l) (λ k. absurd (d (omega arith)))

-- ---- the lowest number that passes
first_append : (xs ys : List ℕ) (k : ℕ) → first xs ≡ some k → first (xs ++ ys) ≡ some k
first_append [] ys k e = let z : ◌≡◌ {A = ℕ} 0 1 = cc in absurd (omega arith)
first_append (x ∷ xs) ys k e = e

first_none : (xs : List ℕ) → first xs ≡ none → xs ≡ []
first_none [] e = refl
first_none (x ∷ xs) e = let z : ◌≡◌ {A = ℕ} 0 1 = cc in absurd (omega arith)

first_some : (xs : List ℕ) (k : ℕ) → first xs ≡ some k → (0 < length xs) × (get_or xs 0 0 ≡ k)
first_some [] k e = let z : ◌≡◌ {A = ℕ} 0 1 = cc in absurd (omega arith)
first_some (x ∷ xs) k e = (omega arith, (cc))

pub lowest_ext : (p q : ℕ → Bool) (n : ℕ) → ((i : ℕ) → i < n → p i ≡ q i) → lowest n p ≡ lowest n q
unfolding lowest
lowest_ext p q n f = ap first (passing_ext p q n f)

module _ (p : ℕ → Bool) where
  -- a search that has found nothing below i, and not at i
  pub lowest_more : (i : ℕ) → lowest i p ≡ none → p i ≡ false → lowest (i + 1) p ≡ none
  unfolding lowest
  lowest_more i e t = rw (passing_miss p i t) e

  -- what is found below i is found below every larger bound
  pub lowest_stays : (i n k : ℕ) → i ≤ n → lowest i p ≡ some k → lowest n p ≡ some k
  unfolding lowest passing
  lowest_stays i n k h e =
      le_ind (λ (m : ℕ). first (passing m p) ≡ some k) e (λ m l q. first_append (passing m p) (cond (p m) (m ∷ []) []) k q) n h

  -- a search that has found nothing below i, and then i
  pub lowest_hit : (i n : ℕ) → lowest i p ≡ none → p i ≡ true → i < n → lowest n p ≡ some i
  unfolding lowest
  lowest_hit i n e t h = lowest_stays (i + 1) n i (omega arith) (rw (passing_hit p i t, first_none (passing i p) e))

  -- what is found is below the bound and passes
  pub lowest_passes : (n k : ℕ) → lowest n p ≡ some k → Passes p n k
  unfolding lowest
  lowest_passes n k e = let f = first_some (passing n p) k e in rw f.1 at (passing_member p n 0 f.0)

  pub lowest_none : (n i : ℕ) → lowest n p ≡ none → i < n → p i ≡ false
  unfolding lowest
  lowest_none n i e h =
      by_bool (p i)
      (λ t. let o = times_passing p n i h in let z : times i (passing n p) ≡ 0 = rw (first_none (passing n p) e) (times_nothing i) in
      absurd (omega (arith, ap bit t)))
      (λ t. t)
