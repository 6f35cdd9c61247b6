-- What each answer of the code stands for.
use Rattle.std.specs.Prelude.{ℕ, Result, Ok, Err}
use Rattle.spec.specs.Checked.{Checked, refused, passed}
use Rattle.spec.specs.Procedures.Names as names
use Rattle.kinds.specs.declared.numbers.ObjectNumber.{ObjectNumber}
use Rattle.kinds.specs.declared.numbers.Status.{Status}
use Rattle.check_make.specs.declared.checks.Target.{Target}
use Rattle.check_make.specs.Meaning.{made_of}

-- the directory and the target, or the status
abbrev pub create_checked_of : Result (ObjectNumber × Target) Status → Checked (ℕ × names.Target)
create_checked_of (Ok p) = passed (p.0.0, made_of p.1)
create_checked_of (Err status) = refused status.0
