-- The bytes of a name in a call. Assumes nothing.
use Prim.Native.Nat.{ℕ, ◌+◌, ◌-◌}
use native.Mathlib.Omega.{arith}
use lib.ListN.{take, drop}
use mathlib.Core.Path.{◌≡◌, refl, ap}
use mathlib.Core.List.{List, [], ◌∷◌}
use mathlib.Core.Bool.{Bool, ◌&&◌}
use Rattle.std.specs.List.{list_all}
use Rattle.spec.specs.Bytes.{part, all_bytes}

pub all_listed : (p : ℕ → Bool) (xs : List ℕ) → list_all p xs ≡ all_bytes p xs
unfolding all_bytes
all_listed p [] = refl
all_listed p (x ∷ xs) = ap (λ (b : Bool). p x && b) (all_listed p xs)

-- the code's range of a call is the part
pub part_range : (call : List ℕ) (at n : ℕ) → take (at + n - at) (drop at call) ≡ part call at n
unfolding part
part_range call at n = let e : at + n - at ≡ n = omega arith in rw e
