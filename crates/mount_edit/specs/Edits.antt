-- What the answers of the table's edits stand for.
use Rattle.std.specs.Prelude.{ℕ, ◌≡◌, Option, Some, None, Result, Ok, Err}
use Rattle.std.proofs.Math.Option.{some, none}
use Rattle.std.proofs.Math.Option as Math
use Rattle.kinds.specs.declared.mount.RowNumber.{RowNumber}
use Rattle.kinds.specs.declared.numbers.Status.{Status}
use Rattle.spec.specs.Checked.{Checked, refused, passed}
use Rattle.mount_spec.specs.Table.{Table}

-- the row that was found
abbrev pub found_row : Option RowNumber → Math.Option ℕ
found_row (Some r) = some r.0
found_row None = none

-- the table that was left, or the status
abbrev pub added_of : Result (Unit {0}) Status → Table → Checked Table
added_of (Ok u) t = passed t
added_of (Err status) t = refused status.0

-- the table after an edit of t that may be refused
abbrev pub table_after : Table → Checked Table → Table
table_after t (refused status) = t
table_after t (passed u) = u

-- an answer and a table are what an addition to t gives
pub record Adds (c : Checked Table) (r : Result (Unit {0}) Status) (t u : Table) : Type 0 where
  pub answers : added_of r u ≡ c
  pub leaves : u ≡ table_after t c
