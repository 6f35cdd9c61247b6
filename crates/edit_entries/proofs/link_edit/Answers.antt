use native.Mathlib.Omega.{arith}
use Rattle.spec.specs.Procedures.Link.{link_edit}
use Rattle.laws.proofs.SetAttributes.{set_attributes_shape}
use Rattle.laws.proofs.Shape.{SameShape}
use Rattle.edit_entries.proofs.link_edit.Goals as goal

pub save_name-requires : goal.save_name-requires
save_name-requires c = let s = c.args.store.now in
    let w = c.requires.good_records.sound.shaped in
    let at = c.requires.linkable_at in
    let q = set_attributes_shape s c.args.context.clock c.args.o.0 c.only_ctime.result c.requires.good_records.sound
    at.file in
    let e : SameShape s c.set_attributes.new.store = rw c.set_attributes.ensures q in
    record { name_record_length_in_bounds = omega (arith, at.name); directory_bound = omega (arith, at.directory); child_bound = omega (arith, at.file); length_in_bounds = c.requires.length_in_bounds; length_le_most_name_bytes = c.requires.length_le_most_name_bytes }

pub returns : goal.returns
unfolding link_edit
returns c = rw (
  c.touch_directory.ensures,
  c.save_name.ensures,
  c.set_attributes.ensures,
  c.only_ctime.ensures,
)
