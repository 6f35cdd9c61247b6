use mathlib.Core.Path.{◌≡◌, refl, sym, ◌∙◌}
use native.Mathlib.Omega.{arith}
use Rattle.laws.proofs.Count.{some_more, some_hit}
use Rattle.spec.specs.Room.{is_in}
use Rattle.spec.specs.Procedures.Removal.{has_entries}
use Rattle.spec.specs.Image.{names}
use Rattle.spec.specs.Count.{some_below}
use Rattle.check_tree.proofs.has_entries.Goals as goal

pub loop-i-init : goal.loop-i-init
unfolding some_below
loop-i-init c = refl

pub returns-then-is_in : goal.returns-then-is_in
unfolding has_entries
returns-then-is_in c = let a = c.args in
    sym (some_hit (is_in a.store.now a.directory.0) c.loop-i.i (names a.store.now) (sym c.is_in.ensures ∙ c.if-is_in.true) (omega arith))

pub loop-i-preserved : goal.loop-i-preserved
loop-i-preserved c = some_more _ c.loop-i.i c.loop-i.invariant (sym c.is_in.ensures ∙ c.if-is_in.false)

pub returns : goal.returns
unfolding has_entries
returns c = let e : c.loop-i.i ≡ names c.args.store.now = omega arith in
    sym (rw e at c.loop-i.invariant)
