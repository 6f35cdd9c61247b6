-- What each answer of the code stands for.
use Rattle.std.specs.Prelude.{ℕ, Result, Ok, Err}
use Rattle.kinds.specs.declared.numbers.ObjectNumber.{ObjectNumber}
use Rattle.kinds.specs.declared.numbers.Status.{Status}
use Rattle.spec.specs.Checked.{Checked, refused, passed}

-- what the value stands for, or the status
abbrev pub checked_of : {A B : Type 0} → (A → B) → Result A Status → Checked B
checked_of f (Ok x) = passed (f x)
checked_of f (Err status) = refused status.0

-- the object, or the status
abbrev pub reached_of : Result ObjectNumber Status → Checked ℕ
reached_of r = checked_of (λ (o : ObjectNumber). o.0) r

-- a good name, or the status
abbrev pub text_checked_of : Result (Unit {0}) Status → Checked (Unit {0})
text_checked_of r = checked_of (λ (u : Unit {0}). u) r
