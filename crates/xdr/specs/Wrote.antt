-- What a write leaves in the reply space.
use Rattle.std.specs.Prelude.{ℕ, ◌+◌, ◌≤◌, List, ◌≡◌, length}
use Rattle.spec.specs.Bytes.{overlay}

-- a write of the n bytes xs at a place of the reply space: after it the space is as before but for these bytes, and next is the
-- place after them
pub record Wrote (n : ℕ) (before after : List ℕ) (at next : ℕ) (xs : List ℕ) : Type 0 where
  pub size : length xs ≡ n
  pub fits : at + n ≤ length before
  pub place : next ≡ at + n
  pub bytes : after ≡ overlay before at xs
