-- The number that each answer of a search stands for.
use Rattle.std.specs.Prelude as Code
use Rattle.std.specs.Prelude.{ℕ, Some, None}
use Rattle.std.proofs.Math.Option.{Option, some, none}
use Rattle.kinds.specs.declared.numbers.NameNumber.{NameNumber}
use Rattle.kinds.specs.declared.numbers.ObjectNumber.{ObjectNumber}

abbrev pub found_object : Code.Option ObjectNumber → Option ℕ
found_object (Some o) = some o.0
found_object None = none

abbrev pub found_name : Code.Option NameNumber → Option ℕ
found_name (Some n) = some n.0
found_name None = none
