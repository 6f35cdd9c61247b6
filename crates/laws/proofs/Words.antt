-- The laws of words and opaque data as they are written. Assumes nothing.
use Prim.Native.Nat.{ℕ, ◌+◌, ◌*◌}
use mathlib.Core.List.{List, [], ◌∷◌, ◌++◌, append_assoc, append-nil}
use mathlib.Core.Path.{◌≡◌, refl}
use native.Mathlib.Omega.{arith}
use lib.ListN.{length, length-append, length-replicate}
use Rattle.spec.specs.Bytes.{bytes_of, words, padding, opaque_bytes}
use Rattle.laws.proofs.Bytes.{bytes_length}

pub words_one : (w : ℕ) → words (w ∷ []) ≡ bytes_of 4 w
unfolding words
words_one w = append-nil (bytes_of 4 w)

pub words_append : (xs ys : List ℕ) → words (xs ++ ys) ≡ words xs ++ words ys
unfolding words
words_append [] ys = refl
words_append (x ∷ xs) ys = rw (words_append xs ys, append_assoc)

pub words_length : (ws : List ℕ) → length (words ws) ≡ 4 * length ws
unfolding words
words_length [] = refl
words_length (w ∷ ws) = rw (length-append, bytes_length, words_length ws) (omega arith)

pub opaque_length : (xs : List ℕ) → length (opaque_bytes xs) ≡ 4 + length xs + padding (length xs)
unfolding opaque_bytes
opaque_length xs = rw (length-append, length-append, words_length, length-replicate)
