use Rattle.edit_entries.proofs.rename_edit.Goals as goal

pub move_edit-requires-clause-movable : goal.move_edit-requires-clause-movable
move_edit-requires-clause-movable c = rw c.in-NewName.is at c.requires.renamable_at

pub remove_name-requires : goal.remove_name-requires
remove_name-requires c = let k = rw c.in-Replacing.is at c.requires.renamable_at in
    record { good_records = c.requires.good_records; n_bound = k.name; used = k.used }

pub move_edit-requires-in-Replacing : goal.move_edit-requires-in-Replacing
move_edit-requires-in-Replacing c =
    let k = rw c.in-Replacing.is at c.requires.renamable_at in
    record {
      good_records = rw c.remove_name.ensures k.good;
      movable = rw c.remove_name.ensures k.movable;
      length_le_most_name_bytes = c.requires.length_le_most_name_bytes;
      length_in_bounds = c.requires.length_in_bounds;
    }

pub returns-in-NewName : goal.returns-in-NewName
returns-in-NewName c = rw c.in-NewName.is c.move_edit.ensures

pub returns-in-SameObject : goal.returns-in-SameObject
returns-in-SameObject c = rw c.in-SameObject.is

pub returns-in-Replacing : goal.returns-in-Replacing
returns-in-Replacing c = rw (
  c.in-Replacing.is,
  c.move_edit-in-Replacing.ensures,
  c.remove_name.ensures,
)
