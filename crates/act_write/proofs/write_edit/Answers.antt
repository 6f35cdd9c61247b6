use mathlib.Core.Path.{◌≡◌, ap, ◌∙◌}
use native.Mathlib.Omega.{arith}
use lib.Dec.{lit<}
use Rattle.spec.specs.Bytes.{part}
use Rattle.spec.specs.Edits.{resize}
use Rattle.spec.specs.Procedures.Data.{grown, write_edit}
use Rattle.laws.proofs.Shape.{same_refl}
use Rattle.laws.proofs.Bytes.{part_length}
use Rattle.laws.proofs.RecordRange.{below_part}
use Rattle.act_write.proofs.Written.{record_inside, grown_small, grown_file, written_shape}
use Rattle.act_write.proofs.write_edit.Goals as goal

pub size_of-old-requires : goal.size_of-old-requires
size_of-old-requires c = record_inside c.args.store.now c.args.store.now c.args.o.0 c.requires.good_records (same_refl c.args.store.now) c.requires.may_write.below

pub overflow_add-offset : goal.overflow_add-offset
overflow_add-offset c = omega (arith, c.requires.may_write.fits)

pub resize-requires : goal.resize-requires
resize-requires c = let e : c.larger.result ≡ grown c.args.store.now c.args.o.0 c.args.offset c.args.n =
    rw (← c.size_of-old.ensures) c.larger.ensures in record {
      good_records = c.requires.good_records;
      used_map = c.requires.used_map;
      o_bound = c.requires.may_write.below;
      o_value = c.requires.may_write.regular;
      size_le_most_file_bytes = rw e (grown_small c.args.store.now c.args.o.0 c.args.offset c.args.n c.requires.good_records
          c.requires.may_write);
      o_bound_2 = rw e c.requires.may_write.room;
    }

pub write_file-requires : goal.write_file-requires
write_file-requires c = let e : c.larger.result ≡ grown c.args.store.now c.args.o.0 c.args.offset c.args.n =
    rw (← c.size_of-old.ensures) c.larger.ensures in
    let f = grown_file c.args.store.now c.args.o.0 c.args.offset c.args.n c.requires.good_records c.requires.may_write
    c.resize.new.store
    (c.resize.ensures ∙ ap (resize c.args.store.now c.args.o.0) e) in
    record { good_records = f.still.good; o_bound = f.below; live = f.live; n_bound = f.inside; n_in_bounds = c.requires.n_in_bounds }

pub touch-requires : goal.touch-requires
touch-requires c = let e : c.larger.result ≡ grown c.args.store.now c.args.o.0
    c.args.offset c.args.n = rw (← c.size_of-old.ensures) c.larger.ensures in
    let f = grown_file c.args.store.now c.args.o.0 c.args.offset c.args.n c.requires.good_records c.requires.may_write
    c.resize.new.store
    (c.resize.ensures ∙ ap (resize c.args.store.now c.args.o.0) e)
    in
    let w = below_part 256 c.args.call.now c.args.start c.args.n (lit< tt)
    (λ k. (c.type_inv.call
    k).fits) in
    let h = written_shape c.args.store.now c.args.o.0 c.args.offset c.args.n c.requires.good_records c.requires.may_write
    c.resize.new.store c.write_file.new.store
    (part c.args.call.now c.args.start c.args.n) f w (part_length _ _ _ c.requires.n_in_bounds)
    c.write_file.ensures in
    record_inside c.args.store.now c.write_file.new.store c.args.o.0 c.requires.good_records h c.requires.may_write.below

pub returns : goal.returns
unfolding write_edit
returns c = rw (
  part_length _ _ _ c.requires.n_in_bounds,
  c.touch.ensures,
  c.write_file.ensures,
  c.resize.ensures,
  c.larger.ensures,
  c.size_of-old.ensures,
)
