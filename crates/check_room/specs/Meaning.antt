-- What each answer of the code stands for.
use Rattle.std.specs.Prelude.{ℕ, Result, Ok, Err}
use Rattle.spec.specs.Checked.{Checked, refused, passed}
use Rattle.kinds.specs.declared.numbers.ObjectNumber.{ObjectNumber}
use Rattle.kinds.specs.declared.numbers.NameNumber.{NameNumber}
use Rattle.kinds.specs.declared.numbers.Status.{Status}

-- the object record and the name record, or the status
abbrev pub room_checked_of : Result (ObjectNumber × NameNumber) Status → Checked (ℕ × ℕ)
room_checked_of (Ok p) = passed (p.0.0, p.1.0)
room_checked_of (Err status) = refused status.0
