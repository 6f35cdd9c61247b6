use native.Mathlib.Omega.{arith}
use Rattle.spec.specs.Edits.{create_object}
use Rattle.laws.proofs.Shape.{SameShape}
use Rattle.laws.proofs.Writes.{object_written}
use Rattle.edit_names.proofs.create_object.Goals as goal

pub save_name-requires : goal.save_name-requires
save_name-requires c = let w = c.requires.good_records.sound.shaped in
    let q = object_written c.args.store.now c.args.o.0 c.with_generation.result (omega arith) c.requires.o_bound in
    let e : SameShape c.args.store.now c.save_object.new.store = rw c.save_object.ensures q.shape in
    record { name_record_length_in_bounds = omega arith; directory_bound = omega arith; child_bound = omega arith; length_in_bounds = c.requires.length_in_bounds; length_le_most_name_bytes = c.requires.length_le_most_name_bytes }

pub returns : goal.returns
unfolding create_object
returns c = rw (
  c.save_name.ensures,
  c.save_object.ensures,
  c.with_generation.ensures,
  c.generation_of-generation.ensures,
)
