-- Numbers of 64 bits that are small, as words. Assumes nothing.
use Prim.Native.Nat.{ℕ, ◌/◌, ◌%◌, ◌<◌}
use mathlib.Core.List.{[], ◌∷◌}
use mathlib.Core.Path.{◌≡◌}
use native.Mathlib.Omega.{arith}
use Rattle.spec.specs.Replies.{hyper}

-- a number of 32 bits as one of 64
pub hyper_small : (v : ℕ) → v < 4294967296 → hyper v ≡ 0 ∷ v ∷ []
hyper_small v h =
    let a : v / 4294967296 ≡ 0 = omega arith in
    let b : v % 4294967296 ≡ v = omega arith in
    rw (a, b)
