-- That words are bytes, and that one number repeated is as small as it is. Assumes nothing.
use mathlib.Core.List.{List, [], ◌∷◌}
use Prim.Native.Nat.{ℕ, zero, suc, ◌<◌}
use lib.Dec.{lit<}
use lib.ListN.{replicate}
use Rattle.spec.specs.Bytes.{bytes_of, words}
use Rattle.laws.proofs.Range.{Below, below_append, below_bytes}

pub below_words : (ws : List ℕ) → Below 256 (words ws)
unfolding words
below_words [] k = lit< tt
below_words (w ∷ ws) k = below_append 256 (bytes_of 4 w) (words ws) (below_bytes 4 w) (below_words ws) k

pub below_same : (m n x : ℕ) → 0 < m → x < m → Below m (replicate n x)
below_same m zero x p h k = p
below_same m (suc n) x p h zero = h
below_same m (suc n) x p h (suc k) = below_same m n x p h k
