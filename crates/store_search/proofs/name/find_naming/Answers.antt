use Rattle.spec.specs.Count.{lowest, passing}
use Rattle.spec.specs.Image.{names}
use Rattle.spec.specs.Room.{is_naming}
use Rattle.laws.proofs.Count.{lowest_more, lowest_hit}
use native.Mathlib.Omega.{arith}
use mathlib.Core.Path.{refl, sym, ◌∙◌}
use Rattle.store_search.proofs.name.find_naming.Goals as goal

pub loop-i-init : goal.loop-i-init
unfolding lowest passing
loop-i-init c = refl

pub returns-then-is_naming : goal.returns-then-is_naming
returns-then-is_naming c = let a = c.args in
    sym (lowest_hit (is_naming a.store.now a.o.0) c.loop-i.i (names a.store.now) c.loop-i.invariant
    (sym c.is_naming.ensures ∙ c.if-is_naming.true) (omega arith))

pub loop-i-preserved : goal.loop-i-preserved
loop-i-preserved c = lowest_more _ c.loop-i.i c.loop-i.invariant (sym c.is_naming.ensures ∙ c.if-is_naming.false)
