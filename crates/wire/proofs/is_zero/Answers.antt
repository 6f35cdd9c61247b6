use Rattle.std.proofs.Common.{◌≡◌, ℕ, ◌+◌, ◌-◌, ◌<◌, eqb, get_or, sym, ap, ◌∙◌, arith}
use mathlib.Core.Bool.{not-not}
use Rattle.spec.specs.Bytes.{part}
use Rattle.spec.specs.Check.{is_zero}
use Rattle.laws.proofs.Bytes.{get_d_part, part_length}
use Rattle.laws.proofs.Tests.{remember}
use Rattle.laws.proofs.Zeros.{all_none, all_next}
use Rattle.wire.proofs.is_zero.Goals as goal

pub loop-x-init : goal.loop-x-init
unfolding is_zero
loop-x-init c = sym (all_none (λ x. eqb x 0) c.args.s.now c.args.at)

pub loop-x-preserved : goal.loop-x-preserved
unfolding is_zero part
loop-x-preserved c = let s = c.args.s.now in
    let at = c.args.at in
    let i = c.loop-x.x-index in
    let n = at + c.args.n - at in
    let within : i < n = omega (arith, part_length s at n (omega arith)) in
    remember c.loop-x.other _ _ (eqb (get_or s (at + i) 0) 0) c.loop-x.invariant (not-not _ ∙ ap (λ (x : ℕ). eqb x 0) (get_d_part s at n i within))
    ∙ sym (all_next (λ x. eqb x 0) s at i (omega arith))

pub returns : goal.returns
unfolding is_zero part
returns c = let a = c.args in
    let e : c.loop-x.x-index ≡ a.n = omega (arith, part_length a.s.now a.at (a.at + a.n - a.at) (omega arith)) in
    rw e at c.loop-x.invariant
