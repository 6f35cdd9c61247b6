-- What is shown of a handle's object, where there is one. Assumes nothing.
use Prim.Native.Nat.{ℕ}
use mathlib.Core.Path.{◌≡◌, refl}
use mathlib.Core.Option.{Option, some, none}
use Rattle.std.specs.Prelude.{Result, Ok, Err, Some, None}
use Rattle.std.specs.Result.{result_ok}
use Rattle.kinds.specs.declared.numbers.ObjectNumber.{ObjectNumber}
use Rattle.kinds.specs.declared.numbers.Status.{Status}
use Rattle.kinds.specs.declared.object.Attributes.{Attributes}
use Rattle.kinds.specs.declared.object.Change.{Change}
use Rattle.spec.specs.Checked.{Checked, refused, passed}
use Rattle.spec.specs.Handles.{attributes_of, change_of}
use Rattle.spec.specs.Image.{Store}
use Rattle.spec.specs.Results as results
use Rattle.spec.specs.Results.{dead, failed, changed, showing_of, changing_of}
use Rattle.results.specs.Meaning.{handle_attributes_in}
use Rattle.check_handles.specs.Meaning.{reached_of}

module _ (s : Store) where
  pub shown_object : (r : Result ObjectNumber Status) → handle_attributes_in s (result_ok r) ≡ attributes_of s (reached_of r)
  shown_object (Ok o) = refl
  shown_object (Err status) = refl

  -- no object, and so no change of it
  pub no_change : (r : Result ObjectNumber Status) → result_ok r ≡ None → change_of s s (reached_of r) ≡ none
  no_change (Ok o) e = cc
  no_change (Err status) e = refl

  -- a failure shows what is shown of its handle's object
  abbrev pub showing : ℕ → Option Attributes → results.Result
  showing status none = dead status
  showing status (some a) = failed status a

  pub showing_shown : (status : ℕ) (c : Checked ℕ) → showing_of s status c ≡ showing status (attributes_of s c)
  showing_shown status (refused _) = refl
  showing_shown status (passed o) = refl

  abbrev pub changing : ℕ → Option Change → results.Result
  changing status none = dead status
  changing status (some c) = changed status c

  pub changing_shown : (status : ℕ) (c : Checked ℕ) → changing_of s status c ≡ changing status (change_of s s c)
  changing_shown status (refused _) = refl
  changing_shown status (passed o) = refl

pub found_object : (r : Result ObjectNumber Status) (o : ObjectNumber) → result_ok r ≡ Some o → r ≡ Ok o
found_object (Ok x) o e = cc
found_object (Err status) o e = cc
