-- A map of zeros, and one of ones and then zeros. Assumes nothing.
use mathlib.Core.Path.{◌≡◌, refl}
use mathlib.Core.List.{List, ◌++◌}
use Prim.Native.Nat.{ℕ, zero, suc, ◌≤◌, ◌<◌}
use native.Mathlib.Omega.{arith}
use lib.ListN.{get_or, replicate, length-replicate}
use Rattle.kinds.specs.Numbers.{most_name_bytes}
use Rattle.fsck_objects.specs.Objects.{Blank, Inside}

zero_at : (n i : ℕ) → ◌≡◌ {A = ℕ} (get_or (replicate n 0) i 0) 0
zero_at zero i = refl
zero_at (suc n) zero = refl
zero_at (suc n) (suc i) = zero_at n i

pub blank_of : (n : ℕ) → Blank n (replicate n 0)
blank_of n = record { long = length-replicate n 0; zero = zero_at n }

-- n ones and then m zeros
abbrev pub ones_then : ℕ → ℕ → List ℕ
ones_then n m = replicate n 1 ++ replicate m 0

one_at : (n m i : ℕ) → i < n → get_or (ones_then n m) i 0 ≡ 1
one_at zero m i h = absurd (omega arith)
one_at (suc n) m zero h = refl
one_at (suc n) m (suc i) h = one_at n m i (omega arith)

zero_past : (n m i : ℕ) → n ≤ i → get_or (ones_then n m) i 0 ≡ 0
zero_past zero m i h = zero_at m i
zero_past (suc n) m zero h = absurd (omega arith)
zero_past (suc n) m (suc i) h = zero_past n m i (omega arith)

pub half_ones : Inside (ones_then most_name_bytes most_name_bytes)
half_ones = record { long = refl; ones = one_at most_name_bytes most_name_bytes; zeros = zero_past most_name_bytes most_name_bytes }
