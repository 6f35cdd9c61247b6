use native.Mathlib.Omega.{arith}
use Rattle.spec.specs.Procedures.Removal.{move_edit}
use Rattle.laws.proofs.GoodRecords.{used_at}
use Rattle.edit_entries.proofs.move_edit.Goals as goal

pub move_name-requires-clause-good_records : goal.move_name-requires-clause-good_records
move_name-requires-clause-good_records c = c.requires.good_records

pub move_name-requires-clause-n_bound : goal.move_name-requires-clause-n_bound
move_name-requires-clause-n_bound c = c.requires.movable.name

pub move_name-requires-clause-directory_bound : goal.move_name-requires-clause-directory_bound
move_name-requires-clause-directory_bound c = c.requires.movable.beyond

pub move_name-requires-clause-length_in_bounds : goal.move_name-requires-clause-length_in_bounds
move_name-requires-clause-length_in_bounds c = c.requires.length_in_bounds

pub move_name-requires-clause-length_le_most_name_bytes : goal.move_name-requires-clause-length_le_most_name_bytes
move_name-requires-clause-length_le_most_name_bytes c = c.requires.length_le_most_name_bytes

pub set_attributes-requires : goal.set_attributes-requires
set_attributes-requires c = let w = c.requires.good_records.sound.shaped in
    let child = (used_at c.args.store.now c.requires.good_records c.args.n.0 c.requires.movable.name c.requires.movable.used).0 in
    omega (arith, c.name_child-child.ensures)

pub touch_directory-requires-2 : goal.touch_directory-requires-2
touch_directory-requires-2 c = let w = c.requires.good_records.sound.shaped in
    let l = c.requires.movable.beyond in
    omega arith

pub returns : goal.returns
unfolding move_edit
returns c = rw (
  c.touch_directory-2.ensures,
  c.touch_directory.ensures,
  c.set_attributes.ensures,
  c.only_ctime.ensures,
  c.move_name.ensures,
  c.name_child-child.ensures,
)
