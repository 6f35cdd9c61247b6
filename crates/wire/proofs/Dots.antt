-- A part of some bytes is "." or "..": by its length and its bytes. Assumes nothing.
use Rattle.std.proofs.Common.{◌≡◌, ℕ, suc, ◌+◌, ◌≤◌, false, ◌&&◌, eqb, ◌≢◌, List, [], ◌∷◌, length, get_or, sym, ap, ◌∙◌, add-one, arith}
use mathlib.Core.Bool.{and-true}
use Rattle.spec.specs.Bytes.{part, same_bytes}
use Rattle.spec.specs.Names.{is_dot, is_dot_dot}
use Rattle.laws.proofs.Bytes.{part_cons, part_length, same_no}

module _ (b : List ℕ) (at : ℕ) where
  one_byte : (n : ℕ) → n ≡ 1 → at + n ≤ length b → part b at n ≡ get_or b at 0 ∷ []
  unfolding part
  one_byte n e h = rw e (part_cons b at 0 (omega arith))

  two_bytes : (n : ℕ) → n ≡ 2 → at + n ≤ length b → part b at n ≡ get_or b at 0 ∷ get_or b (at + 1) 0 ∷ []
  unfolding part
  two_bytes n e h = rw (e, add-one) (part_cons b at 1 (omega arith) ∙ ap (λ (l : List ℕ). get_or b at 0 ∷ l) (part_cons b (suc at) 0 (omega arith)))

  pub dot_long : (n : ℕ) → n ≢ 1 → at + n ≤ length b → is_dot (part b at n) ≡ false
  unfolding is_dot
  dot_long n f h = same_no (part b at n) (0x2E ∷ []) (λ e. f (sym (part_length b at n h) ∙ ap length e))

  pub dot_dot_long : (n : ℕ) → n ≢ 2 → at + n ≤ length b → is_dot_dot (part b at n) ≡ false
  unfolding is_dot_dot
  dot_dot_long n f h = same_no (part b at n) (0x2E ∷ 0x2E ∷ []) (λ e. f (sym (part_length b at n h) ∙ ap length e))

  pub dot_one : (n : ℕ) → n ≡ 1 → at + n ≤ length b → is_dot (part b at n) ≡ eqb (get_or b at 0) 0x2E
  unfolding is_dot same_bytes
  dot_one n e h = rw (one_byte n e h) (and-true (eqb (get_or b at 0) 0x2E))

  pub dot_dot_two : (n : ℕ) → n ≡ 2 → at + n ≤ length b → is_dot_dot (part b at n) ≡ eqb (get_or b at 0) 0x2E && eqb (get_or b (at + 1) 0) 0x2E
  unfolding is_dot_dot same_bytes
  dot_dot_two n e h = rw (two_bytes n e h, and-true (eqb (get_or b (at + 1) 0) 0x2E))
