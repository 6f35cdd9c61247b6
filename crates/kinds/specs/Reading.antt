-- What reading answers, and what the answer of the code stands for.
use Rattle.std.specs.Prelude.{ℕ, Result, Ok, Err}
use Rattle.kinds.specs.declared.call.Cursor.{Cursor}
use Rattle.kinds.specs.declared.reading.BadField.{BadField}

-- a value with the position after it, or the place at which the bytes are refused
pub data Read (A : Type 0) : Type 0 where
  got : A → ℕ → Read A
  bad : ℕ → Read A

-- the place of a refusal; where there is none, the position after the value
abbrev pub place_of : {A : Type 0} → Read A → ℕ
place_of (got a p) = p
place_of (bad p) = p

-- what the answer of the code stands for
abbrev pub read_of : {A : Type 0} → Result (A × Cursor) BadField → Read A
read_of (Ok x) = got x.0 x.1.at
read_of (Err e) = bad e.0
