-- Words, and after them what else a reply holds: one write. Assumes nothing.
use Prim.Native.Nat.{ℕ, ◌+◌}
use mathlib.Core.List.{List, ◌++◌, append_assoc}
use mathlib.Core.Path.{◌≡◌}
use Rattle.spec.specs.Bytes.{words}
use Rattle.laws.proofs.Words.{words_append}
use Rattle.xdr.specs.Wrote.{Wrote}
use Rattle.xdr.proofs.Wrote.{and_then}

-- words and bytes
pub join_words : {n m : ℕ} {r r₁ r₂ : List ℕ} {at p q : ℕ} (xs ys bytes : List ℕ)
    → Wrote n r r₁ at p (words xs) → Wrote m r₁ r₂ p q (words ys ++ bytes) → Wrote (n + m) r r₂ at q (words (xs ++ ys) ++ bytes)
join_words xs ys bytes a b = rw (words_append xs ys, append_assoc (words xs) (words ys) bytes) (and_then a b)

-- words, and bytes in two parts
pub join_parts : {n m : ℕ} {r r₁ r₂ : List ℕ} {at p q : ℕ} (xs ys bytes more : List ℕ)
    → Wrote n r r₁ at p (words xs) → Wrote m r₁ r₂ p q (words ys ++ bytes ++ more) → Wrote (n + m) r r₂ at q (words (xs ++ ys) ++ bytes ++ more)
join_parts xs ys bytes more a b =
    rw (append_assoc (words (xs ++ ys)) bytes more) (join_words xs ys (bytes ++ more) a (rw (append_assoc (words ys) bytes more) at b))

-- the seven numbers of FSSTAT
pub seven_joined : (xs a b c d e f g : List ℕ) → xs ++ a ++ b ++ c ++ d ++ e ++ f ++ g ≡ xs ++ (a ++ b ++ c ++ d ++ e ++ f ++ g)
seven_joined xs a b c d e f g = simp append_assoc
