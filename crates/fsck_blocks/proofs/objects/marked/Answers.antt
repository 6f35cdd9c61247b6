use native.Mathlib.Omega.{arith}
use mathlib.Core.Path.{◌≡◌, refl}
use Prim.Native.Nat.{◌+◌, ◌*◌, ◌/◌, ◌%◌, zero-le}
use lib.ListN.{get_or}
use Rattle.spec.specs.Count.{sum}
use Rattle.fsck_blocks.proofs.Places.{sum_split, marks_from}
use Rattle.fsck_blocks.proofs.objects.marked.Goals as goal

pub loop-k-init : goal.loop-k-init
unfolding sum
loop-k-init c = (zero-le, refl)

pub sum_part-requires-clause-n_bound : goal.sum_part-requires-clause-n_bound
sum_part-requires-clause-n_bound c = omega arith

pub sum_part-requires-clause-n_bound_2 : goal.sum_part-requires-clause-n_bound_2
sum_part-requires-clause-n_bound_2 c = omega arith

pub sum_part-requires-clause-are_marks : goal.sum_part-requires-clause-are_marks
sum_part-requires-clause-are_marks c = marks_from c.requires.are_marks _ _ (omega arith)

pub overflow_cast-total : goal.overflow_cast-total
overflow_cast-total c = omega (arith, c.sum_part.type_inv)

pub overflow_add-total : goal.overflow_add-total
overflow_add-total c = omega (arith, c.sum_part.type_inv)

pub loop-k-preserved : goal.loop-k-preserved
loop-k-preserved c = let f = sum_split (128 * c.loop-k.k) 128 (λ i. get_or c.args.used.now i 0) in
    let e : 128 * c.loop-k.k + 128 ≡ 128 * (c.loop-k.k + 1) = omega arith in
    (omega (arith, c.sum_part.type_inv), omega (arith, c.loop-k.invariant.1, c.sum_part.ensures, rw e at f))

pub sum_part-requires-2-clause-n_bound : goal.sum_part-requires-2-clause-n_bound
sum_part-requires-2-clause-n_bound c = omega arith

pub sum_part-requires-2-clause-n_bound_2 : goal.sum_part-requires-2-clause-n_bound_2
sum_part-requires-2-clause-n_bound_2 c = omega arith

pub sum_part-requires-2-clause-are_marks : goal.sum_part-requires-2-clause-are_marks
sum_part-requires-2-clause-are_marks c = marks_from c.requires.are_marks _ _ (omega arith)

pub overflow_cast-result : goal.overflow_cast-result
overflow_cast-result c = omega (arith, c.sum_part-2.type_inv)

pub overflow_add-result : goal.overflow_add-result
overflow_add-result c = omega (arith, c.sum_part-2.type_inv)

pub returns : goal.returns
returns c = let a = c.args in
    let f = sum_split (128 * (a.limit / 128)) (a.limit % 128) (λ i. get_or a.used.now i 0) in
    let e : 128 * (a.limit / 128) + a.limit % 128 ≡ a.limit = omega arith in
    let k : c.loop-k.k ≡ a.limit / 128 = omega arith in
    omega (arith, rw k at c.loop-k.invariant.1, c.sum_part-2.ensures, rw e at f)
