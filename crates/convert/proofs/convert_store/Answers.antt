use mathlib.Core.Path.{sym, ◌∙◌}
use native.Mathlib.Omega.{arith}
use Rattle.convert.proofs.Outcome.{shape_no, shape_yes, leaves_bad_shape, leaves_bad, leaves_other, leaves_done}
use borrow.Author.Rules.{rules}
use Rattle.convert.proofs.convert_store.Goals as goal

pub returns-in_default : goal.returns-in_default
returns-in_default c = let a = c.args in
    leaves_bad_shape a.old.now a.store.now (shape_no a.old.now (sym c.shape.ensures ∙ c.in_default.is))

pub becomes_good-requires : goal.becomes_good-requires
becomes_good-requires c = let a = c.args in
    let y = shape_yes a.old.now c.in-Some.counts (sym c.shape.ensures ∙ c.in-Some.is) in
    record { old_shaped = y.shaped; p_value = y.objects; q_value = y.names; r_value = y.blocks; room_len = search rules }

pub returns-then-not-becomes_good : goal.returns-then-not-becomes_good
returns-then-not-becomes_good c = let a = c.args in
    let y = shape_yes a.old.now c.in-Some.counts (sym c.shape.ensures ∙ c.in-Some.is) in
    leaves_bad a.old.now a.store.now y.passes (sym (c.if-not-becomes_good.true) ∙ c.becomes_good.ensures)

pub overflow_mul-p : goal.overflow_mul-p
overflow_mul-p c = let a = c.args in
    let y = shape_yes a.old.now c.in-Some.counts (sym c.shape.ensures ∙ c.in-Some.is) in
    omega (arith, y.objects, y.shaped.few_objects)

pub overflow_add-old : goal.overflow_add-old
overflow_add-old c = let a = c.args in
    let y = shape_yes a.old.now c.in-Some.counts (sym c.shape.ensures ∙ c.in-Some.is) in
    let t = y.shaped in
    omega (arith, y.objects, t.few_objects, t.exact, t.few_names, t.few_blocks)

pub returns-then-store-old : goal.returns-then-store-old
returns-then-store-old c = let a = c.args in
    let y = shape_yes a.old.now c.in-Some.counts (sym c.shape.ensures ∙ c.in-Some.is) in
    leaves_other a.old.now a.store.now _ y (sym (c.if-not-becomes_good.false) ∙ c.becomes_good.ensures) c.if-store-old.true

pub lengthen-requires : goal.lengthen-requires
lengthen-requires c = let a = c.args in
    let y = shape_yes a.old.now c.in-Some.counts (sym c.shape.ensures ∙ c.in-Some.is) in
    let t = y.shaped in
    record { p_value = y.objects; p_in_bounds = omega (arith, y.objects, t.exact); p_in_bounds_2 = omega (arith, y.objects, t.exact); p_in_bounds_3 = omega arith }

pub returns : goal.returns
returns c = let a = c.args in
    let y = shape_yes a.old.now c.in-Some.counts (sym c.shape.ensures ∙ c.in-Some.is) in
    leaves_done a.old.now a.store.now _ y (sym (c.if-not-becomes_good.false) ∙ c.becomes_good.ensures) _ c.if-store-old.false
    c.lengthen.ensures
