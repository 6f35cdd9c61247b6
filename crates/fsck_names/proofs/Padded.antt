-- The 32 bytes of a name record: those of the name, and zero. Assumes nothing.
use mathlib.Core.Path.{◌≡◌, refl, sym, ap, ap₂, ◌∙◌}
use mathlib.Core.Bool.{Bool, true, false, ◌&&◌, ◌||◌, not, cond, beq, and-true, and_assoc}
use mathlib.Core.List.{List, [], ◌∷◌, ◌++◌}
use Prim.Native.Nat.{ℕ, zero, suc, ◌+◌, ◌-◌, ◌≤◌, ◌<◌}
use native.Mathlib.Nat.{add-zero, add-suc}
use native.Mathlib.Numerals.{add-one}
use native.Mathlib.Omega.{arith}
use lib.Dec.{eqb, ltb}
use lib.ListN.{length, get_or}
use borrow.Author.Tests.{lt-ltb, le-ltb, eq-eqb, ne_eqb, eqb-true}
use Rattle.kinds.specs.Layout.{length_offset, text_offset, name_record_length}
use Rattle.kinds.specs.Numbers.{most_name_bytes}
use Rattle.spec.specs.Bytes.{part, be_of, bytes_of, be_at, same_bytes, all_bytes}
use Rattle.spec.specs.Count.{every}
use Rattle.spec.specs.Image.{Store}
use Rattle.spec.specs.Names.{is_dots, good_byte, good_bytes, good_name}
use Rattle.spec.specs.Check.{is_zero}
use Rattle.laws.proofs.Bytes.{part_add, part_length, same_eq, same_yes}
use Rattle.laws.proofs.Count.{by_bool, true_false, every_ext}
use Rattle.laws.proofs.Range.{Below, bytes_kept}
use Rattle.fsck_objects.specs.Objects.{Inside}
use Rattle.laws.proofs.Zeros.{all_none, all_next, zero_add, zero_number}
use Rattle.fsck_objects.proofs.Marks.{outside}
use Rattle.fsck_names.specs.Record.{is_text}
use Rattle.fsck_names.proofs.NameLength.{name_is}

-- ---- tests of the numbers below a bound
every_split : (p : ℕ → Bool) (m n : ℕ) → every (m + n) p ≡ every m p && every n (λ i. p (m + i))
unfolding every
every_split p m zero = rw add-zero (sym (and-true (every m p)))
every_split p m (suc n) = rw (add-suc, every_split p m n) (and_assoc (every m p) (every n (λ i. p (m + i))) (p (m + n)))

-- every byte of a part, by its index
all_every : (p : ℕ → Bool) (b : List ℕ) (at n : ℕ) → at + n ≤ length b → every n (λ i. p (get_or b (at + i) 0)) ≡ all_bytes p (part b at n)
unfolding every
all_every p b at zero h = sym (all_none p b at)
all_every p b at (suc n) h =
    ap (λ (t : Bool). t && p (get_or b (at + n) 0)) (all_every p b at n (omega arith))
    ∙ sym (all_next p b at n (omega arith)) ∙ ap (λ (k : ℕ). all_bytes p (part b at k)) (add-one n)

pub text_is : (s : Store) (at n : ℕ) → at + most_name_bytes ≤ length s → n ≤ most_name_bytes
    → every most_name_bytes (is_text s at n) ≡ good_bytes (part s at n) && is_zero (part s (at + n) (most_name_bytes - n))
unfolding good_bytes is_zero
text_is s at n h l =
    let e : n + (most_name_bytes - n) ≡ most_name_bytes = omega arith in
    ap (λ (k : ℕ). every k (is_text s at n)) (sym e) ∙ every_split (is_text s at n) n (most_name_bytes - n)
    ∙ ap₂ (λ (t u : Bool). t && u)
    (every_ext (is_text s at n) (λ i. good_byte (get_or s (at + i) 0)) n (λ i q. rw (lt-ltb i n q)) ∙ all_every good_byte s at n (omega arith))
    (every_ext (λ i. is_text s at n (n + i)) (λ i. eqb (get_or s (at + n + i) 0) 0) (most_name_bytes - n)
    (λ i q. let w : at + (n + i) ≡ at + n + i = omega arith in rw (le-ltb (n + i) n (omega arith), w))
    ∙ all_every (λ x. eqb x 0) s (at + n) (most_name_bytes - n) (omega arith))

-- ---- one byte
step_bool : (seen slash blank inside : Bool) → blank && slash ≡ false
    → not (seen || (slash || beq blank (not (not inside)))) ≡ not seen && cond inside (not blank && not slash) blank
step_bool true slash blank inside e = refl
step_bool false true true inside e = true_false e
step_bool false true false true e = refl
step_bool false true false false e = refl
step_bool false false true true e = refl
step_bool false false true false e = refl
step_bool false false false true e = refl
step_bool false false false false e = refl

zero_slash : (x : ℕ) → eqb x 0 && eqb x 0x2F ≡ false
zero_slash x = by_bool (eqb x 0) (λ e. rw (eqb-true x 0 e)) (λ e. rw e)

pub text_step : (inside : List ℕ) → Inside inside → (n i x : ℕ) (seen : Bool) → n ≤ most_name_bytes → i < most_name_bytes
    → not (seen || (eqb x 0x2F || beq (eqb x 0) (not (eqb (get_or inside (most_name_bytes - n + i) 0) 0))))
    ≡ not seen && cond (ltb i n) (good_byte x) (eqb x 0)
unfolding good_byte
text_step inside v n i x seen h l = rw (outside inside v n i h l) (step_bool seen (eqb x 0x2F) (eqb x 0) (ltb i n) (zero_slash x))

-- ---- a name and its padding, where the bytes of both are tested together
padded_no : (bytes blank dots : Bool) → bytes && blank ≡ false → bytes && dots && blank ≡ false
padded_no true blank true e = e
padded_no true blank false e = refl
padded_no false blank dots e = refl

padded_yes : (bytes blank dots : Bool) → bytes && blank ≡ true → bytes && dots && blank ≡ dots
padded_yes true true dots e = and-true dots
padded_yes true false dots e = true_false (sym e)
padded_yes false blank dots e = true_false (sym e)

module _ (s : Store) (at n : ℕ) (fits : at + most_name_bytes ≤ length s) (least : 1 ≤ n) (most : n ≤ most_name_bytes) where
  named : good_name (part s at n) ≡ good_bytes (part s at n) && not (is_dots (part s at n))
  named = let l : length (part s at n) ≡ n = part_length s at n (omega arith) in name_is (part s at n) (omega arith) (omega arith)

  pub text_no : good_bytes (part s at n) && is_zero (part s (at + n) (most_name_bytes - n)) ≡ false
      → good_name (part s at n) && is_zero (part s (at + n) (most_name_bytes - n)) ≡ false
  text_no e = rw named (padded_no (good_bytes (part s at n)) (is_zero (part s (at + n) (most_name_bytes - n))) (not (is_dots (part s at n))) e)

  pub text_yes : (dots : Bool) → dots ≡ is_dots (part s at n) → good_bytes (part s at n) && is_zero (part s (at + n) (most_name_bytes - n)) ≡ true
      → good_name (part s at n) && is_zero (part s (at + n) (most_name_bytes - n)) ≡ not dots
  text_yes dots d e = rw (named, d) (padded_yes (good_bytes (part s at n)) (is_zero (part s (at + n) (most_name_bytes - n))) (not (is_dots (part s at n))) e)

-- ---- the bytes of two parts, by their numbers and half by half
pub same_number : (s : Store) (a b w : ℕ) → Below 256 s → a + w ≤ length s → b + w ≤ length s → eqb (be_at s a w) (be_at s b w)
    ≡ same_bytes (part s a w) (part s b w)
unfolding be_at
same_number s a b w f h l =
    by_bool (same_bytes (part s a w) (part s b w))
    (λ e. eq-eqb (be_at s a w) (be_at s b w) (ap be_of (same_eq (part s a w) (part s b w) e)) ∙ sym e)
    (λ e. ne_eqb (be_at s a w) (be_at s b w)
    (λ q. true_false (sym (same_yes (part s a w) (part s b w) (sym (bytes_kept s f w a h) ∙ ap (bytes_of w) q ∙ bytes_kept s f w b l)) ∙ e))
    ∙ sym e)

same_append : (xs ys us vs : List ℕ) → length xs ≡ length ys → same_bytes (xs ++ us) (ys ++ vs) ≡ same_bytes xs ys && same_bytes us vs
unfolding same_bytes
same_append [] [] us vs e = refl
same_append [] (y ∷ ys) us vs e = absurd (omega arith)
same_append (x ∷ xs) [] us vs e = absurd (omega arith)
same_append (x ∷ xs) (y ∷ ys) us vs e =
    ap (λ (t : Bool). eqb x y && t) (same_append xs ys us vs (omega arith)) ∙ sym (and_assoc (eqb x y) (same_bytes xs ys) (same_bytes us vs))

pub same_halves : (s : Store) (a b m n : ℕ) → a + m ≤ length s → b + m ≤ length s
    → same_bytes (part s a m) (part s b m) && same_bytes (part s (a + m) n) (part s (b + m) n) ≡ same_bytes (part s a (m + n)) (part s b (m + n))
same_halves s a b m n h l =
    sym (rw (part_add s a m n, part_add s b m n)
    (same_append (part s a m) (part s b m) (part s (a + m) n) (part s (b + m) n) (part_length s a m h ∙ sym (part_length s b m l))))

pub same_quarters : (s : Store) (a b : ℕ) → a + most_name_bytes ≤ length s → b + most_name_bytes ≤ length s → (t u v w : Bool)
    → t ≡ same_bytes (part s a 8) (part s b 8) → u ≡ same_bytes (part s (a + 8) 8) (part s (b + 8) 8)
    → v ≡ same_bytes (part s (a + 16) 8) (part s (b + 16) 8) → w ≡ same_bytes (part s (a + 24) 8) (part s (b + 24) 8)
    → t && u && (v && w) ≡ same_bytes (part s a most_name_bytes) (part s b most_name_bytes)
same_quarters s a b h l t u v w et eu ev ew =
    let x : a + 16 + 8 ≡ a + 24 = omega arith in
    let y : b + 16 + 8 ≡ b + 24 = omega arith in
    let front : t && u ≡ same_bytes (part s a 16) (part s b 16) = rw (et, eu) (same_halves s a b 8 8 (omega arith) (omega arith)) in
    let back : v && w ≡ same_bytes (part s (a + 16) 16) (part s (b + 16) 16) =
    rw (ev, ew, ← x, ← y) (same_halves s (a + 16) (b + 16) 8 8 (omega arith) (omega arith)) in
    ap₂ (λ (i j : Bool). i && j) front back ∙ same_halves s a b 16 16 (omega arith) (omega arith)

-- ---- a free record, whose length is 0
pub free_is : (s : Store) (at : ℕ) → be_at s (at + length_offset) 4 ≡ 0
    → is_zero (part s at name_record_length) ≡ eqb (be_at s at length_offset) 0 && is_zero (part s (at + text_offset) most_name_bytes)
free_is s at e =
    let b : at + length_offset + 4 ≡ at + text_offset = omega arith in
    let z = zero_number s (at + length_offset) 4 ∙ eq-eqb (be_at s (at + length_offset) 4) 0 e in
    zero_add s at length_offset (4 + most_name_bytes) ∙ rw (zero_add s (at + length_offset) 4 most_name_bytes, b, z, zero_number s at length_offset)
