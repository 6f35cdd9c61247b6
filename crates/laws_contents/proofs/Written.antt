-- A list of bytes after a write: its length and each byte. Assumes nothing.
use mathlib.Core.Path.{◌≡◌, refl, sym, ap, ◌∙◌}
use mathlib.Core.Logic.{◌≢◌, ◌⊎◌, ⊎_elim}
use mathlib.Core.Bool.{cond}
use mathlib.Core.List.{List, ◌++◌}
use Prim.Native.Nat.{ℕ, ◌+◌, ◌-◌, ◌≤◌, ◌<◌, max}
use native.Mathlib.Omega.{arith}
use lib.Dec.{eqb}
use lib.ListN.{length, get_or, drop, length-append, length-drop, get_or-append}
use lib.Seq.{ext_get_or, get_or-drop, get_or-append-add}
use borrow.Author.Tests.{ne_eqb}
use Rattle.spec.specs.Bytes.{overlay}
use Rattle.laws.proofs.Bytes.{overlay_length}
use Rattle.laws.proofs.Count.{by_bool}
use Rattle.laws_contents.specs.Written.{at_size, laid, written}
use Rattle.laws_contents.proofs.Laid.{WithinStore, Outside, within?, byte_apart, byte_within}
use Rattle.laws_contents.proofs.Sized.{sized_length, sized_byte}

-- the end of what is written, where something is
abbrev pub reached : ℕ → List ℕ → ℕ
reached i xs = cond (eqb (length xs) 0) 0 (i + length xs)

module _ (old : List ℕ) (i : ℕ) (xs : List ℕ) where
  -- up to the end of what is written
  head_length : length (at_size old i ++ xs) ≡ i + length xs
  head_length = simp (length-append, sized_length)

  -- "Size becomes max(size, offset + n)"
  pub laid_length : length (laid old i xs) ≡ max (length old) (i + length xs)
  unfolding laid
  laid_length = simp (length-append, sized_length, length-drop) (omega arith)

  -- every byte that is not written stays, and is 0 past the old end
  pub laid_other : (k : ℕ) → Outside i (length xs) k → get_or (laid old i xs) k 0 ≡ get_or old k 0
  unfolding laid
  laid_other k (◌⊎◌.inl h) =
      let a = head_length in
      let b = sized_length old i in
      get_or-append (at_size old i ++ xs) (drop (i + length xs) old) 0 k (omega arith) ∙ get_or-append (at_size old i) xs 0 k (omega arith)
      ∙ sized_byte old i k h
  laid_other k (◌⊎◌.inr h) =
      let a = head_length in
      let j = k - (i + length xs) in
      let e : k ≡ length (at_size old i ++ xs) + j = omega arith in
      let f : i + length xs + j ≡ k = omega arith in
      ap (λ (n : ℕ). get_or (laid old i xs) n 0) e ∙ get_or-append-add (at_size old i ++ xs) (drop (i + length xs) old) j 0
      ∙ get_or-drop (i + length xs) old j 0 ∙ ap (λ (n : ℕ). get_or old n 0) f

  -- every byte that is written is there
  pub laid_within : (k : ℕ) → WithinStore i (length xs) k → get_or (laid old i xs) k 0 ≡ get_or xs (k - i) 0
  unfolding laid
  laid_within k h =
      let a = head_length in
      let b = sized_length old i in
      let e : k ≡ length (at_size old i) + (k - i) = omega arith in
      get_or-append (at_size old i ++ xs) (drop (i + length xs) old) 0 k (omega arith)
      ∙ ap (λ (n : ℕ). get_or (at_size old i ++ xs) n 0) e ∙ get_or-append-add (at_size old i) xs (k - i) 0

  -- to grow first and then to replace a part is the same
  pub laid_overlay : overlay (at_size old (max (length old) (i + length xs))) i xs ≡ laid old i xs
  laid_overlay =
      let n = max (length old) (i + length xs) in
      let new = at_size old n in
      let a = sized_length old n in
      let h : i + length xs ≤ length new = omega arith in
      ext_get_or 0 (overlay new i xs) (laid old i xs) (overlay_length new i xs h ∙ a ∙ sym laid_length) (λ k l.
      let b : k < n = omega (arith, overlay_length new i xs h) in
      ⊎_elim
      (λ (w : WithinStore i (length xs) k). byte_within new i xs h k w ∙ sym (laid_within k w))
      (λ (w : Outside i (length xs) k). byte_apart new i xs h k w ∙ sized_byte old n k b ∙ sym (laid_other k w))
      (within? i (length xs) k))

  -- "n = 0 succeeds and changes nothing"
  pub written_none : length xs ≡ 0 → written old i xs ≡ old
  unfolding written
  written_none e = rw e

  -- any other write is laid over
  pub written_some : length xs ≢ 0 → written old i xs ≡ laid old i xs
  unfolding written
  written_some d = rw (ne_eqb (length xs) 0 d)

  -- a write that ends after the old end sets the length
  pub written_length : length (written old i xs) ≡ max (length old) (reached i xs)
  unfolding written
  written_length = by_bool (eqb (length xs) 0) (λ e. rw e (omega arith)) (λ e. rw e laid_length)

  -- every byte that is not written stays
  pub written_other : (k : ℕ) → Outside i (length xs) k → get_or (written old i xs) k 0 ≡ get_or old k 0
  unfolding written
  written_other k h = by_bool (eqb (length xs) 0) (λ e. rw e refl) (λ e. rw e (laid_other k h))

  -- every byte that is written is there
  pub written_within : (k : ℕ) → WithinStore i (length xs) k → get_or (written old i xs) k 0 ≡ get_or xs (k - i) 0
  written_within k h = ap (λ (z : List ℕ). get_or z k 0) (written_some (λ e. omega arith)) ∙ laid_within k h

-- two writes commute where they hold the same bytes wherever both write
pub written_swap : (old : List ℕ) (i : ℕ) (xs : List ℕ) (j : ℕ) (ys : List ℕ)
    → ((k : ℕ) → WithinStore i (length xs) k → WithinStore j (length ys) k → get_or xs (k - i) 0 ≡ get_or ys (k - j) 0)
    → written (written old i xs) j ys ≡ written (written old j ys) i xs
written_swap old i xs j ys f =
    let a = written old i xs in
    let b = written old j ys in
    let p = written_length old i xs in
    let q = written_length old j ys in
    let v = written_length a j ys in
    let w = written_length b i xs in
    ext_get_or 0 (written a j ys) (written b i xs) (omega arith) (λ k _.
    ⊎_elim
    (λ (m : WithinStore j (length ys) k). written_within a j ys k m ∙ ⊎_elim
    (λ (n : WithinStore i (length xs) k). sym (written_within b i xs k n ∙ f k n m))
    (λ (n : Outside i (length xs) k). sym (written_other b i xs k n ∙ written_within old j ys k m))
    (within? i (length xs) k))
    (λ (m : Outside j (length ys) k). written_other a j ys k m ∙ ⊎_elim
    (λ (n : WithinStore i (length xs) k). written_within old i xs k n ∙ sym (written_within b i xs k n))
    (λ (n : Outside i (length xs) k). written_other old i xs k n ∙ sym (written_other b i xs k n ∙ written_other old j ys k m))
    (within? i (length xs) k))
    (within? j (length ys) k))

-- and so where one ends before the other starts
pub written_apart : (old : List ℕ) (i : ℕ) (xs : List ℕ) (j : ℕ) (ys : List ℕ) → (i + length xs ≤ j) ⊎ (j + length ys ≤ i)
    → written (written old i xs) j ys ≡ written (written old j ys) i xs
written_apart old i xs j ys d =
    written_swap old i xs j ys (λ k m n. absurd (⊎_elim (λ (e : i + length xs ≤ j). omega arith) (λ (e : j + length ys ≤ i). omega arith) d))
