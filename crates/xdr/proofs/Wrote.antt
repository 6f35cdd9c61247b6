-- The laws of writes: writes that follow one another are one write. Assumes nothing.
use Prim.Native.Nat.{ℕ, ◌+◌, ◌*◌, ◌≤◌, ◌<◌}
use mathlib.Core.List.{List, [], ◌∷◌, ◌++◌}
use mathlib.Core.Path.{◌≡◌, refl, sym, ap, ◌∙◌}
use native.Mathlib.Omega.{arith}
use native.Mathlib.Numerals.{add-one}
use lib.ListN.{length, take, get_or, length-append}
use lib.Seq.{take-suc}
use Rattle.spec.specs.Bytes.{overlay, words}
use Rattle.laws.proofs.Bytes.{overlay_none, overlay_length, overlay_more}
use Rattle.laws.proofs.Words.{words_append, words_length}
use Rattle.xdr.specs.Wrote.{Wrote}

-- nothing is written
pub wrote_none : (r : List ℕ) (at : ℕ) → at ≤ length r → Wrote 0 r r at at []
wrote_none r at h =
    record { size = refl; fits = omega arith; place = omega arith; bytes = sym (overlay_none r at) }

-- bytes that were laid over the reply space were written
pub wrote_over : {n : ℕ} {r r₁ : List ℕ} {at : ℕ} {x : List ℕ} → r₁ ≡ overlay r at x → length x ≡ n → at + n ≤ length r
    → Wrote n r r₁ at (at + n) x
wrote_over b s f = record { size = s; fits = f; place = refl; bytes = b }

-- a write keeps the length of the reply space
pub wrote_length : {n : ℕ} {r r₁ : List ℕ} {at p : ℕ} {x : List ℕ} → Wrote n r r₁ at p x → length r₁ ≡ length r
wrote_length {n} {r} {r₁} {at} {p} {x} a = ap length a.bytes ∙ overlay_length r at x (omega arith)

-- a write and then another right after it are a write
pub and_then : {n m : ℕ} {r r₁ r₂ : List ℕ} {at p q : ℕ} {x y : List ℕ}
    → Wrote n r r₁ at p x → Wrote m r₁ r₂ p q y → Wrote (n + m) r r₂ at q (x ++ y)
and_then {n} {m} {r} {r₁} {r₂} {at} {p} {q} {x} {y} a b =
    let l = wrote_length a in
    record {
      size = rw length-append (omega arith);
      fits = omega arith;
      place = omega arith;
      bytes = overlay_more r at x y r₁ r₂ n a.fits a.size a.bytes (rw a.place at b.bytes);
    }

-- the same of words
pub and_words : {n m : ℕ} {r r₁ r₂ : List ℕ} {at p q : ℕ} (xs ys : List ℕ)
    → Wrote n r r₁ at p (words xs) → Wrote m r₁ r₂ p q (words ys) → Wrote (n + m) r r₂ at q (words (xs ++ ys))
and_words xs ys a b = rw (words_append xs ys) (and_then a b)

-- the size of a write of words
pub in_words : {n : ℕ} {r r₁ : List ℕ} {at q : ℕ} (xs : List ℕ) → Wrote n r r₁ at q (words xs) → Wrote (4 * length xs) r r₁ at q (words xs)
in_words xs w = let e = sym (words_length xs) ∙ w.size in rw e w

-- the size of a write is the length of its bytes
pub sized : {n : ℕ} {r r₁ : List ℕ} {at q : ℕ} (x : List ℕ) → Wrote n r r₁ at q x → Wrote (length x) r r₁ at q x
sized x w = rw w.size w

-- a write at the start is as long as the place after it
pub wrote_exact : {n m : ℕ} {r r₁ b : List ℕ} → Wrote m r r₁ 0 n b → Wrote n r r₁ 0 n b
wrote_exact {n} {m} w = let e : m ≡ n = omega arith in record { size = w.size ∙ e; fits = omega arith; place = omega arith; bytes = w.bytes }

-- one word more of a list of words
pub wrote_word : (ws : List ℕ) (i : ℕ) {r r₁ r₂ : List ℕ} {at p q : ℕ} → i < length ws
    → Wrote (4 * i) r r₁ at p (words (take i ws)) → Wrote 4 r₁ r₂ p q (words (get_or ws i 0 ∷ []))
    → Wrote (4 * (i + 1)) r r₂ at q (words (take (i + 1) ws))
wrote_word ws i h a b =
    let e : 4 * (i + 1) ≡ 4 * i + 4 = omega arith in
    rw (add-one i, take-suc ws i 0 h, ← add-one i, e) (and_words (take i ws) (get_or ws i 0 ∷ []) a b)
