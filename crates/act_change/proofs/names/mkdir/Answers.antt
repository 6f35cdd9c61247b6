use mathlib.Core.Path.{sym, ap, ◌∙◌}
use Rattle.spec.specs.Procedures.{cut}
use Rattle.store_blocks.proofs.Ready.{ready_records}
use Rattle.laws.proofs.Passed.{mkdir_passed}
use Rattle.check_make.specs.Meaning.{mkdir_checked_of}
use Rattle.act_change.proofs.Makable.{mkdir_makable}
use Rattle.act_change.proofs.names.mkdir.Goals as goal

pub check_mkdir-requires : goal.check_mkdir-requires
check_mkdir-requires c = let g = ready_records c.requires.ready in
    record { good_records = g; used_map = c.requires.ready.map; length_in_bounds = c.requires.length_in_bounds; length_in_bounds_2 = c.requires.length_in_bounds_2 }

pub make_new-requires : goal.make_new-requires
make_new-requires c = let g = ready_records c.requires.ready in
    let e = sym c.check_mkdir.ensures ∙ ap mkdir_checked_of c.in-Ok.is in
    let p = mkdir_passed c.args.store.now (cut c.args.call.now c.args.place.directory)
    (cut c.args.call.now c.args.place.name) c.args.a _ e in record {
      good_records = g;
      used_map = c.requires.ready.map;
      length_in_bounds = c.requires.length_in_bounds_2;
      makable = mkdir_makable c.args.store.now c.args.context
          (cut c.args.call.now c.args.place.directory) (cut c.args.call.now c.args.place.name) c.args.a _ _ _ _
          c.new_object.ensures c.requires.ready.clock c.requires.fits_settable p;
    }

pub fail_changing-requires : goal.fail_changing-requires
fail_changing-requires c = let g = ready_records c.requires.ready in
    record { good_records = g; length_in_bounds = c.requires.length_in_bounds }
