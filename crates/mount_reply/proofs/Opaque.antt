-- The writes of a string: its length, its bytes and zeros. Assumes nothing.
use Prim.Native.Nat.{ℕ, ◌+◌}
use mathlib.Core.List.{List, [], ◌∷◌}
use mathlib.Core.Path.{◌≡◌, sym, ◌∙◌}
use native.Mathlib.Nat.{add_assoc}
use lib.ListN.{length}
use Rattle.spec.specs.Bytes.{words, zeros, padding, opaque_bytes}
use Rattle.xdr.specs.Wrote.{Wrote}
use Rattle.xdr.proofs.Wrote.{and_then}

-- they are a write of the string
pub wrote_opaque : {n m k : ℕ} {r r₁ r₂ r₃ : List ℕ} {at p q z : ℕ} (xs : List ℕ) → length xs ≡ n → k ≡ padding n
    → Wrote 4 r r₁ at p (words (n ∷ [])) → Wrote m r₁ r₂ p q xs → Wrote k r₂ r₃ q z (zeros k)
    → Wrote (4 + (n + padding n)) r r₃ at z (opaque_bytes xs)
unfolding opaque_bytes
wrote_opaque {n} xs e f a b c =
    rw (e, ← add_assoc 4 n (padding n), ← f) (and_then (and_then a (rw (sym b.size ∙ e) at b)) c)
