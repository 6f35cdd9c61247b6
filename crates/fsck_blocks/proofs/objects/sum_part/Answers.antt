use native.Mathlib.Omega.{arith}
use mathlib.Core.Path.{◌≡◌, refl}
use Prim.Native.Nat.{◌+◌, ◌-◌, ◌<◌, zero-le}
use lib.ListN.{get_or}
use Rattle.spec.specs.Bytes.{part}
use Rattle.spec.specs.Count.{sum}
use Rattle.laws.proofs.Bytes.{get_d_part, part_length}
use Rattle.laws.proofs.Count.{sum_more}
use Rattle.fsck_blocks.proofs.objects.sum_part.Goals as goal

pub loop-mark-init : goal.loop-mark-init
unfolding sum
loop-mark-init c = (zero-le, refl)

pub overflow_add-total : goal.overflow_add-total
unfolding part
overflow_add-total c = let a = c.args in
    let i = c.loop-mark.mark-index in
    let within : i < a.from + a.n - a.from = omega (arith, part_length a.used.now a.from (a.from + a.n - a.from) (omega arith)) in
    omega (arith, get_d_part a.used.now a.from (a.from + a.n - a.from) i within, c.requires.are_marks.most i (omega arith))

pub loop-mark-preserved : goal.loop-mark-preserved
unfolding part
loop-mark-preserved c = let a = c.args in
    let i = c.loop-mark.mark-index in
    let within : i < a.from + a.n - a.from = omega (arith, part_length a.used.now a.from (a.from + a.n - a.from) (omega arith)) in
    let e = get_d_part a.used.now a.from (a.from + a.n - a.from) i within in
    let m = c.requires.are_marks.most i (omega arith) in
    (omega (arith, e, m), omega (arith, e, c.loop-mark.invariant.1, sum_more i (λ j. get_or a.used.now (a.from + j) 0)))

pub returns : goal.returns
unfolding part
returns c = let a = c.args in
    let e : c.loop-mark.mark-index ≡ a.n = omega (arith, part_length a.used.now a.from (a.from + a.n - a.from) (omega arith)) in
    rw e at c.loop-mark.invariant.1
