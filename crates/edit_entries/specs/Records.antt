-- What the edits of REMOVE, RMDIR, RENAME and LINK ask of the records that the checks found.
use Rattle.std.specs.Prelude.{ℕ, ◌<◌}
use Rattle.kinds.specs.declared.object.Time.{Time}
use Rattle.spec.specs.Edits.{remove_name}
use Rattle.spec.specs.Image.{Store, objects, names}
use Rattle.spec.specs.Procedures.Removal.{Onto, new_name, same_object, replacing}
use Rattle.laws.proofs.ActGood.{Movable}
use Rattle.laws.proofs.GoodRecords.{GoodRecords}
use Rattle.laws.proofs.Valid.{Used}

-- directory d, and the used name record n
pub record RemovableAt (s : Store) (d n : ℕ) : Type 0 where
  pub directory : d < objects s
  pub name : n < names s
  pub used : Used s n

-- the used name record m of what is replaced, and what the move of record n asks of the store without it
pub record ReplaceableAt (s : Store) (clock : Time) (d e n m : ℕ) : Type 0 where
  pub name : m < names s
  pub used : Used s m
  pub good : GoodRecords (remove_name s clock m)
  pub movable : Movable (remove_name s clock m) d e n

-- what RENAME asks, by what the new name is
abbrev pub RenamableAt : Store → Time → ℕ → ℕ → ℕ → Onto → Type 0
RenamableAt s clock d e n new_name = Movable s d e n
RenamableAt s clock d e n same_object = Unit {0}
RenamableAt s clock d e n (replacing m) = ReplaceableAt s clock d e n m

-- file o, directory d, and the name record n that is to name it
pub record LinkableAt (s : Store) (o d n : ℕ) : Type 0 where
  pub file : o < objects s
  pub directory : d < objects s
  pub name : n < names s
