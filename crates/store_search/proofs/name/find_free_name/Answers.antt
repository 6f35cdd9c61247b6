use mathlib.Core.Bool.{not}
use Rattle.spec.specs.Count.{lowest, passing}
use Rattle.spec.specs.Image.{names}
use Rattle.spec.specs.Room.{is_used_name, available_name}
use Rattle.laws.proofs.Count.{lowest_more, lowest_hit}
use native.Mathlib.Omega.{arith}
use mathlib.Core.Path.{◌≡◌, refl, sym, ◌∙◌}
use Rattle.store_search.proofs.name.find_free_name.Goals as goal

pub loop-n-init : goal.loop-n-init
unfolding lowest passing
loop-n-init c = refl

pub returns-then-is_free_name : goal.returns-then-is_free_name
unfolding available_name
returns-then-is_free_name c = let a = c.args in
    sym (lowest_hit (λ n. not (is_used_name a.store.now n)) c.loop-n.n (names a.store.now) c.loop-n.invariant
    (sym c.is_free_name.ensures ∙ c.if-is_free_name.true) (omega arith))

pub loop-n-preserved : goal.loop-n-preserved
loop-n-preserved c = lowest_more _ c.loop-n.n c.loop-n.invariant (sym c.is_free_name.ensures ∙ c.if-is_free_name.false)

pub returns : goal.returns
unfolding available_name
returns c = let e : c.loop-n.n ≡ names c.args.store.now = omega arith in
    sym (rw e at c.loop-n.invariant)
