-- What each part of the store check tells.
use Rattle.std.specs.Prelude.{◌≡◌, Bool, true, false}
use Rattle.spec.specs.Image.{Store}
use Rattle.spec.specs.Check.{records_pass}

-- what a part of the check tells: its own facts where it answers true, else that a demand on the records does not hold
pub record Told (t : Bool) (s : Store) (facts : Type 0) : Type 0 where
  pub yes : t ≡ true → facts
  pub no : t ≡ false → records_pass s ≡ false
