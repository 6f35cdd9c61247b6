-- Decimal numbers by how many digits they have, and the length of a host as dotted decimal. Assumes nothing.
use Prim.Native.Nat.{ℕ, ◌+◌, ◌/◌, ◌%◌, ◌≤◌, ◌<◌}
use mathlib.Core.List.{List, [], ◌∷◌, ◌++◌}
use mathlib.Core.Path.{◌≡◌}
use native.Mathlib.Omega.{arith}
use borrow.Author.Tests.{lt-ltb, le-ltb}
use lib.ListN.{length, get_or, length-append}
use Rattle.std.specs.Int.{w32, to_be_bytes}
use Rattle.mount_spec.specs.Replies.{stop, digit, decimal, dotted}

-- one digit
pub decimal_one : (n : ℕ) → n < 10 → decimal n ≡ digit n ∷ []
unfolding decimal
decimal_one n a = rw (lt-ltb n 10 a)

-- two digits
pub decimal_two : (n : ℕ) → 10 ≤ n → n < 100 → decimal n ≡ digit (n / 10) ∷ digit (n % 10) ∷ []
unfolding decimal
decimal_two n a b = rw (le-ltb n 10 a, lt-ltb n 100 b)

-- three digits
pub decimal_three : (n : ℕ) → 100 ≤ n → decimal n ≡ digit (n / 100) ∷ digit (n / 10 % 10) ∷ digit (n % 10) ∷ []
unfolding decimal
decimal_three n a = rw (le-ltb n 10 (omega arith), le-ltb n 100 a)

-- a host as dotted decimal is its four numbers and three full stops
pub dotted_length : (host : ℕ) → length (dotted host)
    ≡ length (decimal (host / 16777216)) + (1 + length (decimal (host / 65536 % 256))) + (1 + length (decimal (host / 256 % 256)))
    + (1 + length (decimal (host % 256)))
unfolding dotted
dotted_length host = rw (length-append, length-append, length-append) (omega arith)

-- the four numbers are its bytes, highest first
module _ (host : ℕ) (bytes : List ℕ) (l : host < 4294967296) (e : bytes ≡ to_be_bytes w32 host) where
  pub dotted_bytes : dotted host
      ≡ decimal (get_or bytes 0 0) ++ (stop ∷ decimal (get_or bytes 1 0)) ++ (stop ∷ decimal (get_or bytes 2 0)) ++ (stop ∷ decimal (get_or bytes 3 0))
  unfolding dotted
  dotted_bytes = let top : host / 16777216 % 256 ≡ host / 16777216 = omega arith in rw (e, top)

  pub dotted_bytes_length : length (dotted host)
      ≡ length (decimal (get_or bytes 0 0)) + (1 + length (decimal (get_or bytes 1 0))) + (1 + length (decimal (get_or bytes 2 0)))
      + (1 + length (decimal (get_or bytes 3 0)))
  dotted_bytes_length = rw (dotted_bytes, length-append, length-append, length-append) (omega arith)
