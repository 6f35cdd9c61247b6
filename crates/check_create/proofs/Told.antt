-- What the checks of a name to be made tell. Assumes nothing.
use Prim.Native.Nat.{ℕ, ◌≤◌}
use mathlib.Core.Path.{◌≡◌, refl}
use mathlib.Core.Bool.{Bool, true, false}
use mathlib.Core.List.{List}
use Rattle.kinds.specs.Numbers.{EXIST, most_file_bytes}
use Rattle.kinds.specs.declared.call.Settable.{Settable}
use Rattle.spec.specs.Checked.{passed}
use Rattle.spec.specs.Handles.{check_name}
use Rattle.spec.specs.Names.{is_dots}
use Rattle.spec.specs.Procedures.Attributes.{size_set, bad_attributes}
use Rattle.spec.specs.Procedures.Names.{check_new}
use Rattle.laws.proofs.Passed.{bind_passed, refuse_passed}
use Rattle.laws.proofs.SetAttributes.{allowed}

-- a name may be made only where the attributes are valid
pub new_valid : (text : List ℕ) (invalid : Bool) → check_new text invalid ≡ passed tt → invalid ≡ false
unfolding check_new
new_valid text false e = refl
new_valid text true e = bind_passed (check_name text) _ tt e (λ _ e₁ f₁. refuse_passed (is_dots text) EXIST _ tt f₁ (λ t f₂. cc))

-- so the size that is given fits a file
pub new_size : (text : List ℕ) (a : Settable) → check_new text (bad_attributes a) ≡ passed tt → size_set a.size 0 ≤ most_file_bytes
new_size text a e = (allowed a (new_valid text (bad_attributes a) e)).size
