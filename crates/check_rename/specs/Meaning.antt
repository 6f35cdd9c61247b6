-- What each answer of the checks stands for.
use Rattle.std.specs.Prelude.{ℕ, Result, Ok, Err}
use Rattle.spec.specs.Checked.{Checked, refused, passed}
use Rattle.spec.specs.Procedures.Removal as removal
use Rattle.kinds.specs.declared.numbers.Status.{Status}
use Rattle.check_rename.specs.declared.Onto.{Onto}
use Rattle.check_rename.specs.declared.Renamable.{Renamable}

-- what the new name is
abbrev pub onto_of : Onto → removal.Onto
onto_of Onto.NewName = removal.new_name
onto_of Onto.SameObject = removal.same_object
onto_of (Onto.Replacing m) = removal.replacing m.0

-- the same, or the status
abbrev pub onto_checked_of : Result Onto Status → Checked removal.Onto
onto_checked_of (Ok t) = passed (onto_of t)
onto_checked_of (Err status) = refused status.0

-- both directories, the name record, and what the new name is; or the status
abbrev pub renamable_of : Result Renamable Status → Checked (ℕ × ℕ × ℕ × removal.Onto)
renamable_of (Ok r) = passed (r.source.0, r.target.0, r.name.0, onto_of r.onto)
renamable_of (Err status) = refused status.0
