use native.Mathlib.Omega.{arith}
use lib.Dec.{lit<}
use Rattle.spec.specs.Procedures.{cut}
use Rattle.laws.proofs.Bytes.{part_length}
use Rattle.laws.proofs.RecordRange.{below_part}
use Rattle.act_write.proofs.Written.{record_inside}
use Rattle.act_change.proofs.Made.{created_still, created_map, created_sizable, created_sized}
use Rattle.act_change.proofs.names.new_edit.Goals as goal

pub create_object-requires : goal.create_object-requires
create_object-requires c = let m = c.requires.makable in record {
  good_records = c.requires.good_records;
  o_bound = m.room.object_below;
  n_bound = m.room.name_below;
  directory_bound = m.below;
  length_in_bounds = c.requires.length_in_bounds;
  length_le_most_name_bytes = omega (
    arith,
    m.good.short,
    part_length c.args.call.now c.args.name.start
        c.args.name.length c.requires.length_in_bounds,
  );
}

pub resize_to-requires : goal.resize_to-requires
resize_to-requires c = let w = below_part 256 c.args.call.now c.args.name.start c.args.name.length (lit< tt)
    (λ k. (c.type_inv.call k).fits) in
    let text = cut c.args.call.now c.args.name in record {
      good_records = rw c.create_object.ensures (created_still c.args.store.now c.args.context c.args.v c.args.size c.args.o.0 c.args.n.0 c.args.d.0 text
          c.requires.good_records c.requires.makable w).good;
      used_map = rw c.create_object.ensures (created_map c.args.store.now c.args.context c.args.v c.args.size c.args.o.0 c.args.n.0 c.args.d.0 text
          c.requires.good_records c.requires.makable w c.args.used.now c.requires.used_map);
      sizable = rw c.create_object.ensures (created_sizable c.args.store.now c.args.context c.args.v c.args.size c.args.o.0 c.args.n.0 c.args.d.0 text
          c.requires.good_records c.requires.makable w);
    }

pub touch-requires : goal.touch-requires
touch-requires c = let w = below_part 256 c.args.call.now c.args.name.start c.args.name.length (lit< tt)
    (λ k. (c.type_inv.call k).fits) in
    let h = created_sized c.args.store.now c.args.context c.args.v c.args.size c.args.o.0 c.args.n.0 c.args.d.0
    (cut c.args.call.now c.args.name) c.requires.good_records c.requires.makable w in
    record_inside c.args.store.now c.resize_to.new.store c.args.d.0 c.requires.good_records
    (rw (c.resize_to.ensures, c.create_object.ensures) h.shape)
    c.requires.makable.below
