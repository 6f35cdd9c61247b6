use native.Mathlib.Omega.{arith}
use mathlib.Core.Bool.{◌&&◌, not}
use mathlib.Core.Path.{◌≡◌, refl, sym, ◌∙◌}
use lib.Dec.{eqb}
use lib.ListN.{get_or}
use Prim.Native.Nat.{◌+◌, ◌-◌}
use Rattle.spec.specs.Count.{every}
use Rattle.fsck_objects.specs.Objects.{is_unused}
use Rattle.laws.proofs.Count.{every_next}
use Rattle.laws.proofs.Tests.{remember}
use Rattle.fsck_objects.proofs.Marks.{unused_step}
use Rattle.fsck_objects.proofs.object.past_unused.Goals as goal

pub loop-i-init : goal.loop-i-init
unfolding every
loop-i-init c = (refl, refl)

pub loop-i-preserved : goal.loop-i-preserved
loop-i-preserved c = let a = c.args in
    let x = get_or a.s.now (a.at + c.loop-i.i) 0 in
    let y = get_or a.inside.now (32 - a.n + c.loop-i.i) 0 in (
      refl,
      remember c.loop-i.other (not (eqb x 255) && eqb y 0) _ _ c.loop-i.invariant.1
          (unused_step a.inside.now c.requires.inside a.n c.loop-i.i x c.requires.n_bound (omega arith))
          ∙ sym (every_next (is_unused a.s.now a.at a.n) c.loop-i.i),
    )

pub returns : goal.returns
returns c = let e : c.loop-i.i ≡ 32 = omega arith in
    rw e at c.loop-i.invariant.1
