-- What an answer of the code stands for.
use Rattle.std.specs.Prelude.{ℕ, Result, Ok, Err}
use Rattle.kinds.specs.declared.numbers.Status.{Status}
use Rattle.spec.specs.Checked.{Checked, refused, passed}
use Rattle.act_read.specs.declared.lookup.Looked.{Looked}

-- the directory and the object, or the status
abbrev pub looked_of : Result Looked Status → Checked (ℕ × ℕ)
looked_of (Ok looked) = passed (looked.directory.0, looked.object.0)
looked_of (Err status) = refused status.0
