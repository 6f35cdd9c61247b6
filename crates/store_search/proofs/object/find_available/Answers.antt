use Rattle.spec.specs.Count.{lowest, passing}
use Rattle.spec.specs.Image.{objects}
use Rattle.spec.specs.Room.{is_available, available_object}
use Rattle.laws.proofs.Count.{lowest_more, lowest_hit}
use native.Mathlib.Omega.{arith}
use mathlib.Core.Path.{◌≡◌, refl, sym, ◌∙◌}
use Rattle.store_search.proofs.object.find_available.Goals as goal

pub loop-i-init : goal.loop-i-init
unfolding lowest passing
loop-i-init c = refl

pub returns-then-is_available : goal.returns-then-is_available
unfolding available_object
returns-then-is_available c = let a = c.args in
    sym (lowest_hit (is_available a.store.now) c.loop-i.i (objects a.store.now) c.loop-i.invariant
    (sym c.is_available.ensures ∙ c.if-is_available.true) (omega arith))

pub loop-i-preserved : goal.loop-i-preserved
loop-i-preserved c = lowest_more _ c.loop-i.i c.loop-i.invariant (sym c.is_available.ensures ∙ c.if-is_available.false)

pub returns : goal.returns
unfolding available_object
returns c = let e : c.loop-i.i ≡ objects c.args.store.now = omega arith in
    sym (rw e at c.loop-i.invariant)
