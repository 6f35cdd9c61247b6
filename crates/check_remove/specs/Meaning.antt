-- What each answer of the checks stands for.
use Rattle.std.specs.Prelude.{ℕ, Result, Ok, Err}
use Rattle.spec.specs.Checked.{Checked, refused, passed}
use Rattle.kinds.specs.declared.numbers.ObjectNumber.{ObjectNumber}
use Rattle.kinds.specs.declared.numbers.NameNumber.{NameNumber}
use Rattle.kinds.specs.declared.numbers.Status.{Status}

-- the name record, or the status
abbrev pub entry_checked_of : Result NameNumber Status → Checked ℕ
entry_checked_of (Ok n) = passed n.0
entry_checked_of (Err status) = refused status.0

-- the directory and the name record, or the status
abbrev pub removable_of : Result (ObjectNumber × NameNumber) Status → Checked (ℕ × ℕ)
removable_of (Ok p) = passed (p.0.0, p.1.0)
removable_of (Err status) = refused status.0
