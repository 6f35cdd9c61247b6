-- Comparing one byte, and four, pair by pair. Assumes nothing.
use Rattle.std.proofs.Common.{◌≡◌, ℕ, ◌+◌, ◌<◌, ◌≤◌, Bool, true, false, cond, eqb, ◌≢◌, List, length, get_or, sym, refl, ◌∙◌, arith, eq-eqb, ne_eqb}
use mathlib.Core.Bool.{and-true}
use Rattle.spec.specs.Bytes.{part, same_bytes, pairs}
use Rattle.laws.proofs.Bytes.{part_cons, part_length, same_eq, pairs_equal, pairs_bound}
use Rattle.wire.proofs.Numbers.{part_four}

-- one pair that differs
pub one_differs : (a : List ℕ) (at : ℕ) (b : List ℕ) (from : ℕ) → at < length a → from < length b → get_or a at 0 ≢ get_or b from 0
    → (same_bytes (part a at 1) (part b from 1) ≡ false) × (pairs (part a at 1) (part b from 1) ≡ 1)
unfolding part same_bytes pairs
one_differs a at b from g h f = rw (part_cons a at 0 g, part_cons b from 0 h, ne_eqb _ _ f) (refl, refl)

module _ (a : List ℕ) (at : ℕ) (b : List ℕ) (from : ℕ) (g : at + 4 ≤ length a) (h : from + 4 ≤ length b) where
  -- what is said of the four pairs: how many were compared, and whether all are equal
  abbrev pub Says : ℕ → Bool → Type 0
  Says n t = (t ≡ same_bytes (part a at 4) (part b from 4)) × (n ≡ pairs (part a at 4) (part b from 4))

  pub first_differs : get_or a at 0 ≢ get_or b from 0 → Says 1 false
  unfolding same_bytes pairs
  first_differs f = rw (part_four a at g, part_four b from h, ne_eqb _ _ f) (refl, refl)

  pub second_differs : get_or a at 0 ≡ get_or b from 0 → get_or a (at + 1) 0 ≢ get_or b (from + 1) 0 → Says 2 false
  unfolding same_bytes pairs
  second_differs d f = rw (part_four a at g, part_four b from h, eq-eqb _ _ d, ne_eqb _ _ f) (refl, refl)

  pub third_differs : get_or a at 0 ≡ get_or b from 0 → get_or a (at + 1) 0 ≡ get_or b (from + 1) 0 → get_or a (at + 2) 0 ≢ get_or b (from + 2) 0 → Says 3 false
  unfolding same_bytes pairs
  third_differs d e f = rw (part_four a at g, part_four b from h, eq-eqb _ _ d, eq-eqb _ _ e, ne_eqb _ _ f) (refl, refl)

  pub fourth_decides : get_or a at 0 ≡ get_or b from 0 → get_or a (at + 1) 0 ≡ get_or b (from + 1) 0 → get_or a (at + 2) 0 ≡ get_or b (from + 2) 0
      → Says 4 (eqb (get_or a (at + 3) 0) (get_or b (from + 3) 0))
  unfolding same_bytes pairs
  fourth_decides d e f =
      rw (part_four a at g, part_four b from h, eq-eqb _ _ d, eq-eqb _ _ e, eq-eqb _ _ f)
      (sym (and-true _), last (eqb (get_or a (at + 3) 0) (get_or b (from + 3) 0)))
    where
      last : (t : Bool) → 4 ≡ 1 + (1 + (1 + (1 + cond t 0 0)))
      last true = refl
      last false = refl

  -- all four are compared where all are equal, and never more
  pub four_equal : same_bytes (part a at 4) (part b from 4) ≡ true → pairs (part a at 4) (part b from 4) ≡ 4
  four_equal e = pairs_equal _ _ (same_eq _ _ e) ∙ part_length a at 4 g

  pub four_bound : pairs (part a at 4) (part b from 4) ≤ 4
  four_bound = let r = pairs_bound (part a at 4) (part b from 4) in let l = part_length a at 4 g in omega arith
