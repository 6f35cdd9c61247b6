-- A number by the bytes of its field, and bytes with their padding. Assumes nothing.
use Prim.Native.Nat.{ℕ, ◌+◌, ◌≤◌, ◌<◌}
use mathlib.Core.Bool.{Bool, true, false}
use mathlib.Core.List.{List}
use mathlib.Core.Path.{◌≡◌, refl, sym, ap}
use mathlib.Core.Logic.{⊎_elim}
use native.Mathlib.Nat.{add_assoc}
use native.Mathlib.Omega.{arith}
use borrow.Author.Tests.{leb-true, le-leb, lt-leb}
use lib.ListN.{length}
use lib.Dec.{leb}
use Rattle.kinds.specs.Reading.{Read, got, bad, place_of}
use Rattle.kinds.specs.declared.call.Part.{Part}
use Rattle.spec.specs.Bytes.{be_at}
use Rattle.spec.specs.Xdr.{bind, only_if, placed, number, word, bytes}
use Rattle.laws.proofs.Bytes.{lt_or_le}
use Rattle.laws.proofs.Xdr.{only_if_got, only_if_bad}

-- a field whose value is v, by the same field whose value is x
revalued : {A B : Type 0} (t : Bool) (p q : ℕ) (x : A) (v : B) → only_if t p (got v q) ≡ bind (only_if t p (got x q)) (λ _ next. got v next)
revalued true p q x v = refl
revalued false p q x v = refl

-- a number is read where its bytes are
pub number_by_bytes : (n : ℕ) (s : List ℕ) (at : ℕ) → number n s at ≡ bind (bytes n s at) (λ _ next. got (be_at s at n) next)
unfolding number bytes
number_by_bytes n s at = revalued (leb (at + n) (length s)) at (at + n) (record { start = at; length = n }) (be_at s at n)

-- bytes that were read stand in the call
pub bytes_fit : (n : ℕ) (s : List ℕ) (at : ℕ) (p : Part) (q : ℕ) → bytes n s at ≡ got p q → at + n ≤ length s
unfolding bytes
bytes_fit n s at p q e = only_if_got (leb (at + n) (length s)) _ _ _ _ e (λ fits made. leb-true _ _ fits)

-- and what follows is after them
pub bytes_next : (n : ℕ) (s : List ℕ) (at : ℕ) (p : Part) (q : ℕ) → bytes n s at ≡ got p q → q ≡ at + n
unfolding bytes
bytes_next n s at p q e = only_if_got (leb (at + n) (length s)) _ _ _ _ e (λ fits made. sym (ap place_of made))

-- bytes that were refused do not
pub bytes_cut : (n : ℕ) (s : List ℕ) (at q : ℕ) → bytes n s at ≡ bad q → length s < at + n
unfolding bytes
bytes_cut n s at q e = ⊎_elim (λ (h : length s < at + n). h) (λ (h : at + n ≤ length s). absurd (apart (rw (le-leb _ _ h) at e))) (lt_or_le (length s) (at + n))
  where
    apart : {x : Part} {k : ℕ} → ◌≡◌ {A = Read Part} (got x k) (bad q) → ⊥
    apart e = let z : ◌≡◌ {A = ℕ} 0 1 = cc in omega arith

-- a word is refused where it starts
pub word_start : (s : List ℕ) (at q : ℕ) → word s at ≡ bad q → q ≡ at
unfolding word number
word_start s at q e = sym (only_if_bad (leb (at + 4) (length s)) at (be_at s at 4) (at + 4) q e)

-- n bytes and p bytes of padding behind them: where all stand in the call, the n bytes are read
pub padded_fits : (n p : ℕ) (s : List ℕ) (at : ℕ) → at + (n + p) ≤ length s
    → bind (bytes n s at) (λ part next. bind (bytes p s next) (λ _ last. got part last))
    ≡ got (record { start = at; length = n }) (at + (n + p))
unfolding bytes
padded_fits n p s at h = rw (← add_assoc at n p, le-leb (at + n) (length s) (omega arith), le-leb (at + n + p) (length s) (omega arith))

-- where they do not, they are refused
pub padded_cut : (n p : ℕ) (s : List ℕ) (at place : ℕ) → length s < at + (n + p)
    → placed place (bind (bytes n s at) (λ part next. bind (bytes p s next) (λ _ last. got part last))) ≡ bad place
unfolding bytes
padded_cut n p s at place h =
    ⊎_elim (λ (k : length s < at + n). rw (lt-leb _ _ k))
    (λ (k : at + n ≤ length s). rw (le-leb _ _ k, lt-leb (at + n + p) (length s) (omega arith))) (lt_or_le (length s) (at + n))
