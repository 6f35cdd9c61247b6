-- What each answer of the code stands for.
use Rattle.std.specs.Prelude.{ℕ, Result, Ok, Err}
use Rattle.spec.specs.Checked.{Checked, refused, passed}
use Rattle.spec.specs.Procedures.Names as names
use Rattle.kinds.specs.declared.numbers.Status.{Status}
use Rattle.check_make.specs.declared.checks.Target.{Target}
use Rattle.check_make.specs.declared.checks.NewPlace.{NewPlace}

-- a new object and its name record, or the file of that name
abbrev pub made_of : Target → names.Target
made_of (Target.New o n) = names.new o.0 n.0
made_of (Target.Existing o) = names.existing o.0

abbrev pub target_checked_of : Result Target Status → Checked names.Target
target_checked_of (Ok t) = passed (made_of t)
target_checked_of (Err status) = refused status.0

-- the directory, the object record and the name record, or the status
abbrev pub mkdir_checked_of : Result NewPlace Status → Checked (ℕ × ℕ × ℕ)
mkdir_checked_of (Ok p) = passed (p.directory.0, p.object.0, p.name.0)
mkdir_checked_of (Err status) = refused status.0
