use native.Mathlib.Omega.{arith}
use Rattle.spec.specs.Edits.{move_name}
use Rattle.laws.proofs.RecordRange.{name_at_fits}
use Rattle.edit_names.proofs.move_name.Goals as goal

pub save_name-requires : goal.save_name-requires
save_name-requires c = let h = c.requires.good_records.sound in
    let w = h.shaped in
    let f = name_at_fits c.args.store.now c.args.n.0 h.bytes (h.short c.args.n.0 c.requires.n_bound) in
    record { name_record_length_in_bounds = omega arith; directory_bound = omega arith; child_bound = omega (arith, c.name_child-child.ensures, f.child); length_in_bounds = c.requires.length_in_bounds; length_le_most_name_bytes = c.requires.length_le_most_name_bytes }

pub returns : goal.returns
unfolding move_name
returns c = rw (c.save_name.ensures, c.name_child-child.ensures)
