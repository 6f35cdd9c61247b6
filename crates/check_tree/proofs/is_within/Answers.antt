use mathlib.Core.Path.{◌≡◌, refl, sym, ap, ◌∙◌}
use native.Mathlib.Omega.{arith}
use borrow.Author.Tests.{eq-eqb, ne_eqb}
use lib.Dec.{eqb}
use Rattle.store_records.proofs.Good.{good_shaped}
use Rattle.store_search.proofs.Entry.{parent_below}
use Rattle.laws.proofs.Count.{some_more, some_hit}
use Rattle.spec.specs.Room.{parent, above}
use Rattle.spec.specs.Procedures.Removal.{is_within}
use Rattle.spec.specs.Image.{objects}
use Rattle.spec.specs.Count.{some_below, iterate}
use Rattle.check_tree.proofs.Within.{above_more, way_ended}
use Rattle.check_tree.proofs.is_within.Goals as goal

pub returns-then-not-is_directory : goal.returns-then-not-is_directory
unfolding is_within
returns-then-not-is_directory c = rw (← c.is_directory.ensures, c.if-not-is_directory.true)

pub loop-init : goal.loop-init
unfolding above iterate some_below
loop-init c = (c.requires.directory_bound, refl, refl)

pub returns-then-at-o : goal.returns-then-at-o
unfolding is_within
returns-then-at-o c = let a = c.args in
    rw (
      ← c.is_directory.ensures,
      c.if-not-is_directory.false,
    )
    (sym (some_hit (λ k. eqb (above a.store.now k a.directory.0) a.o.0) c.loop.counter (objects a.store.now)
    (eq-eqb _ _ (sym c.loop.invariant.1 ∙ c.if-at-o.true)) (omega arith)))

pub returns-then-parent-at : goal.returns-then-parent-at
unfolding is_within
returns-then-parent-at c = let a = c.args in
    let s = a.store.now in
    let g = c.requires.good_records in
    let up = c.parent_table-parents.ensures.entries c.loop.at (omega (arith, (good_shaped s g).few_objects)) in
    rw (
      ← c.is_directory.ensures,
      c.if-not-is_directory.false,
    )
    (sym (way_ended s a.o.0 a.directory.0 c.loop.counter (objects s)
    (ap (parent s) (sym c.loop.invariant.1) ∙ sym up ∙ c.if-parent-at.true ∙ c.loop.invariant.1) c.loop.invariant.2
    (λ e. c.if-at-o.false (c.loop.invariant.1 ∙ e)) (omega arith)))

pub loop-preserved : goal.loop-preserved
loop-preserved c = let a = c.args in
    let s = a.store.now in
    let g = c.requires.good_records in
    let up = c.parent_table-parents.ensures.entries c.loop.at (omega (arith, (good_shaped s g).few_objects)) in (
      rw up (parent_below s g c.loop.at),
      up ∙ ap (parent s) c.loop.invariant.1 ∙ sym (above_more s c.loop.counter a.directory.0),
      some_more (λ k. eqb (above s k a.directory.0) a.o.0) c.loop.counter c.loop.invariant.2
          (ne_eqb _ _ (λ e. c.if-at-o.false (c.loop.invariant.1 ∙ e))),
    )

pub returns : goal.returns
unfolding is_within
returns c = let e : c.loop.counter ≡ objects c.args.store.now = omega arith in
    rw (
      ← c.is_directory.ensures,
      c.if-not-is_directory.false,
    ) (sym (rw e at c.loop.invariant.2))
