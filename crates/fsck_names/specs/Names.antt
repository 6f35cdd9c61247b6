-- What the pass over the name records keeps.
use Rattle.std.specs.Prelude.{ℕ, ◌<◌, ◌≡◌, true, false, List}
use Rattle.spec.specs.Count.{every}
use Rattle.spec.specs.Image.{Store}
use Rattle.spec.specs.Room.{is_used_name}
use Rattle.spec.specs.Check.{good_name_record}
use Rattle.fsck_names.specs.Distinct.{is_same, Chains}
use Rattle.fsck_names.specs.Named.{NamedBy, LinkedBy}

-- the records below n pass, and the maps are theirs
pub record NamesPass (s : Store) (n : ℕ) (parents links head next : List ℕ) : Type 0 where
  pub good : every n (good_name_record s) ≡ true
  pub new : (k m : ℕ) → k < n → m < k → is_used_name s k ≡ true → is_same s k m ≡ false
  pub chains : Chains s n head next
  pub named : NamedBy s n parents
  pub linked : LinkedBy s n links
