-- What each answer of the checks stands for.
use Rattle.std.specs.Prelude.{ℕ, Result, Ok, Err}
use Rattle.spec.specs.Checked.{Checked, refused, passed}
use Rattle.kinds.specs.declared.numbers.Status.{Status}
use Rattle.check_link.specs.declared.Linkable.{Linkable}

-- the file, the directory and the name record, or the status
abbrev pub linkable_of : Result Linkable Status → Checked (ℕ × ℕ × ℕ)
linkable_of (Ok l) = passed (l.file.0, l.directory.0, l.name.0)
linkable_of (Err status) = refused status.0
