-- What a write leaves alone: every part that lies before or after it. Assumes nothing.
use mathlib.Core.Path.{◌≡◌, ap}
use mathlib.Core.Logic.{◌⊎◌, ⊎_elim}
use mathlib.Core.List.{List}
use Prim.Native.Nat.{ℕ, ◌+◌, ◌≤◌}
use lib.ListN.{length}
use Rattle.spec.specs.Bytes.{part, overlay, be_of, be_at}
use Rattle.laws.proofs.Bytes.{part_before, part_after}

-- the n bytes from p lie before or after the m bytes from at
abbrev pub Apart : ℕ → ℕ → ℕ → ℕ → Type 0
Apart at m p n = (p + n ≤ at) ⊎ (at + m ≤ p)

module _ (b : List ℕ) (at : ℕ) (xs : List ℕ) (h : at + length xs ≤ length b) where
  pub part_apart : (p n : ℕ) → Apart at (length xs) p n → part (overlay b at xs) p n ≡ part b p n
  part_apart p n d = ⊎_elim (part_before b at xs h p n) (part_after b at xs h p n) d

  pub be_apart : (p w : ℕ) → Apart at (length xs) p w → be_at (overlay b at xs) p w ≡ be_at b p w
  unfolding be_at
  be_apart p w d = ap be_of (part_apart p w d)
