-- Single bytes of a list of which a part was replaced. Assumes nothing.
use mathlib.Core.Path.{◌≡◌, refl, sym, ap, ◌∙◌}
use mathlib.Core.Logic.{◌⊎◌, ⊎_elim}
use mathlib.Core.List.{List}
use Prim.Native.Nat.{ℕ, ◌+◌, ◌-◌, ◌≤◌, ◌<◌}
use native.Mathlib.Omega.{arith}
use native.Mathlib.Nat.{add-zero}
use lib.Dec.{lit<}
use lib.ListN.{length, get_or}
use Rattle.spec.specs.Bytes.{part, overlay}
use Rattle.laws.proofs.Apart.{part_apart}
use Rattle.laws.proofs.Bytes.{lt_or_le, get_d_part, part_same}

-- k is one of the n indexes from i
abbrev pub WithinStore : ℕ → ℕ → ℕ → Type 0
WithinStore i n k = (i ≤ k) × (k < i + n)

-- k lies before or after them
abbrev pub Outside : ℕ → ℕ → ℕ → Type 0
Outside i n k = (k < i) ⊎ (i + n ≤ k)

-- it is one or the other
pub within? : (i n k : ℕ) → WithinStore i n k ⊎ Outside i n k
within? i n k =
    ⊎_elim (λ (a : k < i). ◌⊎◌.inr (◌⊎◌.inl a))
    (λ (a : i ≤ k). ⊎_elim (λ (b : k < i + n). ◌⊎◌.inl (a, b)) (λ (b : i + n ≤ k). ◌⊎◌.inr (◌⊎◌.inr b)) (lt_or_le k (i + n)))
    (lt_or_le k i)

-- and not both
pub not_both : (i n k : ℕ) → WithinStore i n k → Outside i n k → ⊥
not_both i n k a (◌⊎◌.inl b) = omega arith
not_both i n k a (◌⊎◌.inr b) = omega arith

-- a byte alone is the part of length one
byte_part : (b : List ℕ) (p : ℕ) → get_or b p 0 ≡ get_or (part b p 1) 0 0
byte_part b p = ap (λ (q : ℕ). get_or b q 0) (sym (add-zero p)) ∙ sym (get_d_part b p 1 0 (lit< tt))

-- two lists with the same part of length one have the same byte there
pub byte_same : (b c : List ℕ) (p : ℕ) → part b p 1 ≡ part c p 1 → get_or b p 0 ≡ get_or c p 0
byte_same b c p e = byte_part b p ∙ ap (λ (l : List ℕ). get_or l 0 0) e ∙ sym (byte_part c p)

module _ (b : List ℕ) (at : ℕ) (xs : List ℕ) (h : at + length xs ≤ length b) where
  -- a byte before or after what was laid over
  pub byte_apart : (k : ℕ) → Outside at (length xs) k → get_or (overlay b at xs) k 0 ≡ get_or b k 0
  byte_apart k (◌⊎◌.inl l) = byte_same (overlay b at xs) b k (part_apart b at xs h k 1 (◌⊎◌.inl (omega arith)))
  byte_apart k (◌⊎◌.inr l) = byte_same (overlay b at xs) b k (part_apart b at xs h k 1 (◌⊎◌.inr l))

  -- a byte of what was laid over
  pub byte_within : (k : ℕ) → WithinStore at (length xs) k → get_or (overlay b at xs) k 0 ≡ get_or xs (k - at) 0
  byte_within k l =
      let e : k ≡ at + (k - at) = omega arith in
      ap (λ (j : ℕ). get_or (overlay b at xs) j 0) e ∙ sym (get_d_part (overlay b at xs) at (length xs) (k - at) (omega arith))
      ∙ ap (λ (z : List ℕ). get_or z (k - at) 0) (part_same b at xs h (length xs) refl)
