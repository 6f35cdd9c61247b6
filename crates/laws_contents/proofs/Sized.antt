-- A list of bytes cut to a length, or padded with zeros up to it. Assumes nothing.
use mathlib.Core.Path.{◌≡◌, sym, ap, ◌∙◌}
use mathlib.Core.Logic.{⊎_elim}
use mathlib.Core.List.{List}
use Prim.Native.Nat.{ℕ, ◌+◌, ◌-◌, ◌≤◌, ◌<◌}
use native.Mathlib.Omega.{arith}
use lib.ListN.{length, get_or, take, length-append, length-take, length-replicate, get_or-replicate, get_or-append, get_or-eq_default}
use lib.Seq.{get_or-take, get_or-append-add}
use Rattle.spec.specs.Bytes.{zeros}
use Rattle.laws.proofs.Bytes.{lt_or_le}
use Rattle.laws_contents.specs.Written.{at_size}

-- it has the length that was asked
pub sized_length : (old : List ℕ) (n : ℕ) → length (at_size old n) ≡ n
unfolding at_size
sized_length old n = simp (length-append, length-take, length-replicate) (omega arith)

-- and at every index the byte of the old list, or 0 past its end
pub sized_byte : (old : List ℕ) (n i : ℕ) → i < n → get_or (at_size old n) i 0 ≡ get_or old i 0
unfolding at_size
sized_byte old n i h =
    let a = length-take n old in
    ⊎_elim
    (λ (l : i < length old). get_or-append (take n old) (zeros (n - length old)) 0 i (omega arith) ∙ get_or-take n old i 0 h)
    (λ (l : length old ≤ i). let e : i ≡ length (take n old) + (i - length old) = omega arith in
    ap (λ (j : ℕ). get_or (at_size old n) j 0) e ∙ get_or-append-add (take n old) (zeros (n - length old)) (i - length old) 0
    ∙ get_or-replicate (n - length old) (i - length old) 0 0 (omega arith) ∙ sym (get_or-eq_default old 0 l))
    (lt_or_le i (length old))
