use mathlib.Core.Path.{sym, ap, ◌∙◌}
use Rattle.spec.specs.Procedures.{cut}
use Rattle.store_blocks.proofs.Ready.{ready_records}
use Rattle.laws.proofs.Passed.{create_passed}
use Rattle.check_create.specs.Meaning.{create_checked_of}
use Rattle.act_change.proofs.Makable.{create_makable, create_sizable}
use Rattle.act_change.proofs.names.create.Goals as goal

pub check_create-requires : goal.check_create-requires
check_create-requires c = let g = ready_records c.requires.ready in
    record { good_records = g; used_map = c.requires.ready.map; length_in_bounds = c.requires.length_in_bounds; length_in_bounds_2 = c.requires.length_in_bounds_2 }

pub make_new-requires : goal.make_new-requires
make_new-requires c = let new = c.in-Ok-default-New in
    let place = c.args.place in
    let p = create_passed c.args.store.now (cut c.args.call.now place.directory) (cut c.args.call.now place.name) c.args.manner _
    (sym c.check_create.ensures ∙ ap create_checked_of new.is) in record {
      good_records = ready_records c.requires.ready;
      used_map = c.requires.ready.map;
      length_in_bounds = c.requires.length_in_bounds_2;
      makable = create_makable c.args.store.now (cut c.args.call.now place.directory) (cut c.args.call.now place.name) c.args.manner
          c.settable_in-size.result _ _ p c.settable_in-size.ensures c.args.context _ _ _ c.new_file-v.ensures new.field-0-1-is
          c.requires.ready.clock c.requires.fits_how;
    }

pub obey_size-requires : goal.obey_size-requires
obey_size-requires c = let existing = c.in-Ok-default-Existing in
    let place = c.args.place in
    let p = create_passed c.args.store.now (cut c.args.call.now place.directory) (cut c.args.call.now place.name) c.args.manner _
    (sym c.check_create.ensures ∙ ap create_checked_of existing.is) in record {
      good_records = ready_records c.requires.ready;
      used_map = c.requires.ready.map;
      good_clock = c.requires.ready.clock;
      d_bound = p.reached.below;
      sizable = create_sizable c.args.store.now (cut c.args.call.now place.directory) (cut c.args.call.now place.name) c.args.manner
          c.settable_in-size.result _ _ p c.settable_in-size.ensures _ existing.field-0-1-is (ready_records c.requires.ready);
    }

pub fail_changing-requires : goal.fail_changing-requires
fail_changing-requires c = let g = ready_records c.requires.ready in
    record { good_records = g; length_in_bounds = c.requires.length_in_bounds }
