use mathlib.Core.Path.{◌≡◌, refl, sym, ◌∙◌}
use native.Mathlib.Omega.{arith}
use Rattle.spec.specs.Count.{passing}
use Rattle.spec.specs.Image.{names}
use Rattle.act_list.specs.Run.{open_run, run_of}
use Rattle.act_list.proofs.Runs.{is_absent, named_here, over_absent, over_low, over_fitting, over_large}
use Rattle.act_list.proofs.name_run.Goals as goal

pub loop-i-init : goal.loop-i-init
unfolding run_of passing
loop-i-init c = (omega arith, refl)

pub overflow_mul-i : goal.overflow_mul-i
overflow_mul-i c = let h = c.requires.good_records.sound.shaped in
    omega (arith, c.name_count-i-end.ensures)

pub overflow_add-first : goal.overflow_add-first
overflow_add-first c = let h = c.requires.good_records.sound.shaped in
    omega (arith, c.names_start-first.ensures, c.name_count-i-end.ensures)

pub length_in-long-requires : goal.length_in-long-requires
length_in-long-requires c = let h = c.requires.good_records.sound.shaped in
    omega (arith, c.names_start-first.ensures, c.name_count-i-end.ensures)

pub overflow_add-number : goal.overflow_add-number
overflow_add-number c = let h = c.requires.good_records.sound.shaped in
    omega (arith, c.name_count-i-end.ensures)

pub loop-i-preserved-then-long-eq0 : goal.loop-i-preserved-then-long-eq0
loop-i-preserved-then-long-eq0 c = let a = c.args in
    let s = a.store.now in (
      omega arith,
      over_absent s a.d.0 a.given (open_run a.room a.count) c.loop-i.i c.loop-i.left c.loop-i.found c.loop-i.invariant.1
          (is_absent s a.d.0 c.loop-i.i _ (omega (arith, c.names_start-first.ensures)) (sym c.length_in-long.ensures ∙ c.if-long-eq0.true)),
    )

pub loop-i-preserved-then-number-given : goal.loop-i-preserved-then-number-given
loop-i-preserved-then-number-given c = let a = c.args in
    let s = a.store.now in
    let here = named_here s a.d.0 c.loop-i.i _ _ c.requires.good_records
    (omega (arith, c.name_count-i-end.ensures)) (omega (arith, c.names_start-first.ensures)) c.length_in-long.ensures
    (omega (arith, c.if-long-eq0.false)) in (
      omega arith,
      over_low s a.d.0 a.given (open_run a.room a.count) c.loop-i.i c.loop-i.left c.loop-i.found c.loop-i.invariant.1 here.0 c.if-number-given.true,
    )

pub entry_cost-price-requires : goal.entry_cost-price-requires
entry_cost-price-requires c = let a = c.args in
    let s = a.store.now in
    let here = named_here s a.d.0 c.loop-i.i _ _ c.requires.good_records
    (omega (arith, c.name_count-i-end.ensures)) (omega (arith, c.names_start-first.ensures)) c.length_in-long.ensures
    (omega (arith, c.if-long-eq0.false)) in
    here.2

pub returns-then-left-price : goal.returns-then-left-price
returns-then-left-price c = let a = c.args in
    let s = a.store.now in
    let here = named_here s a.d.0 c.loop-i.i _ _ c.requires.good_records
    (omega (arith, c.name_count-i-end.ensures)) (omega (arith, c.names_start-first.ensures))
    c.length_in-long.ensures (omega (arith, c.if-long-eq0.false)) in
    over_large s a.d.0 a.given (open_run a.room a.count) c.loop-i.i c.loop-i.left c.loop-i.found c.loop-i.invariant.1 _ (names s) here.0 here.1
    c.if-number-given.false (omega (arith, c.if-left-price.true, c.entry_cost-price.ensures))
    (omega (arith, c.name_count-i-end.ensures))

pub overflow_add-found : goal.overflow_add-found
overflow_add-found c = let h = c.requires.good_records.sound.shaped in
    omega (arith, c.name_count-i-end.ensures)

pub loop-i-preserved : goal.loop-i-preserved
loop-i-preserved c = let a = c.args in
    let s = a.store.now in
    let here = named_here s a.d.0 c.loop-i.i _ _ c.requires.good_records
    (omega (arith, c.name_count-i-end.ensures)) (omega (arith, c.names_start-first.ensures))
    c.length_in-long.ensures (omega (arith, c.if-long-eq0.false)) in (
      omega arith,
      rw c.entry_cost-price.ensures
          (over_fitting s a.d.0 a.given (open_run a.room a.count) c.loop-i.i c.loop-i.left c.loop-i.found c.loop-i.invariant.1 _ here.0 here.1
          c.if-number-given.false (omega (arith, c.if-left-price.false, c.entry_cost-price.ensures))),
    )

pub returns : goal.returns
returns c = let e : c.loop-i.i ≡ names c.args.store.now =
    omega (arith, c.name_count-i-end.ensures) in
    rw e at c.loop-i.invariant.1
