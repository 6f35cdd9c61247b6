use mathlib.Core.Path.{refl, sym, ap, ◌∙◌}
use Rattle.spec.specs.Procedures.Attributes.{setattr}
use Rattle.spec.specs.Procedures.{cut}
use Rattle.spec.specs.Handles.{change}
use Rattle.store_blocks.proofs.Ready.{ready_records}
use Rattle.check_handles.specs.Meaning.{reached_of}
use Rattle.laws.proofs.Passed.{setattr_passed}
use Rattle.act_write.proofs.Written.{left_showable}
use Rattle.act_change.proofs.Edited.{setattr_sizable, setattr_left}
use Rattle.act_change.proofs.attributes.setattr.Goals as goal

pub check_setattr-requires : goal.check_setattr-requires
check_setattr-requires c = let g = ready_records c.requires.ready in
    record { good_records = g; used_map = c.requires.ready.map; length_in_bounds = c.requires.length_in_bounds }

pub fail_changing-requires : goal.fail_changing-requires
fail_changing-requires c = let g = ready_records c.requires.ready in
    record { good_records = g; length_in_bounds = c.requires.length_in_bounds }

pub returns-in-Err : goal.returns-in-Err
unfolding setattr
returns-in-Err c = rw (← c.check_setattr.ensures, c.in-Err.is)
    (record { result = c.fail_changing.ensures.result_value; store = refl; writable = c.fail_changing.ensures.writable })

pub before-earlier-requires : goal.before-earlier-requires
before-earlier-requires c = let g = ready_records c.requires.ready in
    let e = sym c.check_setattr.ensures ∙ ap reached_of c.in-Ok.is in
    let p = setattr_passed c.args.store.now (cut c.args.call.now c.args.h) c.args.a c.args.g _ e in
    record { good_records = g; o_bound = p.reached.below }

pub setattr_edit-requires : goal.setattr_edit-requires
setattr_edit-requires c = let g = ready_records c.requires.ready in
    let e = sym c.check_setattr.ensures ∙ ap reached_of
    c.in-Ok.is in
    let p = setattr_passed c.args.store.now (cut c.args.call.now c.args.h) c.args.a c.args.g _ e in
    record { good_records = g; used_map = c.requires.ready.map; sizable = setattr_sizable c.args.store.now (cut c.args.call.now c.args.h) c.args.a c.args.g _ g p }

pub returns : goal.returns
unfolding setattr change
returns c = let e = sym c.check_setattr.ensures ∙ ap reached_of
    c.in-Ok.is in
    let p = setattr_passed c.args.store.now (cut c.args.call.now c.args.h) c.args.a c.args.g _ e in
    let l = setattr_left c.args.store.now c.args.context c.requires.ready.valid c.requires.ready.bytes c.requires.ready.clock c.args.call.now
    (λ k. (c.type_inv.call k).fits)
    c.args.h c.args.a c.args.g _ c.requires.fits_settable e in
    rw (
      ← c.check_setattr.ensures,
      c.in-Ok.is,
    )
    (record {
      result = rw (c.before-earlier.ensures, c.setattr_edit.ensures);
      store =
          c.setattr_edit.ensures;
      writable = left_showable _ _ _ _ l c.setattr_edit.ensures p.reached.below;
    })
