-- Every part in the arguments that the code answers lies within the call. Assumes nothing.
use Prim.Native.Nat.{ℕ}
use mathlib.Core.List.{List}
use mathlib.Core.Path.{◌≡◌, sym, ap, ◌∙◌}
use lib.ListN.{length}
use Rattle.std.specs.Prelude.{Result, Ok}
use Rattle.kinds.specs.Reading.{read_of}
use Rattle.kinds.specs.declared.reading.BadField.{BadField}
use Rattle.kinds.specs.declared.call.Arguments.{Arguments}
use Rattle.kinds.specs.declared.call.Cursor.{Cursor}
use Rattle.spec.specs.Arguments.{arguments}
use Rattle.laws.proofs.Arguments.{Within}
use Rattle.laws.proofs.ArgumentRange.{arguments_within}

pub read_within : (p : ℕ) (s : List ℕ) (at : ℕ) (r : Result (Arguments × Cursor) BadField) (a : Arguments) (c : Cursor)
    → read_of r ≡ arguments p s at → r ≡ Ok (a, c) → Within (length s) a
read_within p s at r a c e is = arguments_within p s at a c.at (sym e ∙ ap read_of is)
