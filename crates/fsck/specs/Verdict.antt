-- What the check says of the records, and of a store.
use Rattle.std.specs.Prelude.{Option, ◌≡◌, Bool, true, List, ℕ}
use Rattle.spec.specs.Count.{every}
use Rattle.spec.specs.Image.{Store, objects, names}
use Rattle.spec.specs.Check.{good_name_record, is_distinct, good_namings, leads_to_root, records_pass, passes}
use Rattle.store_blocks.specs.Blocks.{UsedMap}
use Rattle.fsck_names.specs.Named.{LinkedBy}
use Rattle.fsck.specs.Found.{counts_of, found_if}
use Rattle.fsck.specs.declared.shape.Counts.{Counts}

-- the demands on names and on the tree hold, and `links` has the number of names of each object
pub record NamesAndTreePass (s : Store) (links : List ℕ) : Type 0 where
  pub good : every (names s) (good_name_record s) ≡ true
  pub distinct : every (names s) (is_distinct s) ≡ true
  pub named : every (objects s) (good_namings s) ≡ true
  pub leads : every (objects s) (leads_to_root s) ≡ true
  pub linked : LinkedBy s (names s) links

-- whether the demands on the records hold, with the map of the used blocks and that of links where they do
pub record RecordVerdict (s : Store) (t : Bool) (used links : List ℕ) : Type 0 where
  pub is : t ≡ records_pass s
  pub map : records_pass s ≡ true → UsedMap s used
  pub linked : records_pass s ≡ true → LinkedBy s (names s) links

-- the counts of a store that passes, with the map of its used blocks, or none
pub record Verdict (s : Store) (found : Option Counts) (used : List ℕ) : Type 0 where
  pub is : found ≡ found_if (passes s) (counts_of s)
  pub map : passes s ≡ true → UsedMap s used
