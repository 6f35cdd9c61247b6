use Rattle.std.proofs.Common.{◌≡◌, ◌+◌, sym, refl, ◌∙◌, zero-le, arith, rules}
use borrow.Author.Tests.{not-true, not-false}
use Rattle.spec.specs.Bytes.{part}
use Rattle.laws.proofs.Bytes.{part_length, part_snoc, same_yes, pairs_equal, first_difference, equal_further}
use Rattle.wire.proofs.Pairs.{one_differs, four_equal, four_bound}
use Rattle.wire.proofs.compare_bytes.Goals as goal

pub loop-i-init : goal.loop-i-init
unfolding part
loop-i-init c = (zero-le, refl)

pub overflow_add-i : goal.overflow_add-i
overflow_add-i c = let a = c.args in
    let few = four_bound a.a.now (a.at + c.loop-i.i) a.b.now (a.from + c.loop-i.i) (omega arith) (omega arith) in
    search (rules, few, c.compare_four-four.ensures.pairs_value)

pub returns-then-not-four : goal.returns-then-not-four
returns-then-not-four c = let a = c.args in
    let p = first_difference a.a.now a.b.now a.at a.from a.len c.loop-i.i 4 c.requires.len_in_bounds c.requires.len_in_bounds_2 (omega arith) c.loop-i.invariant.1
    (sym c.compare_four-four.ensures.same_value ∙ not-true _ c.if-not-four.true) in
    record { same_value = sym p.0; pairs_value = omega (arith, p.1, c.compare_four-four.ensures.pairs_value) }

pub loop-i-smaller : goal.loop-i-smaller
loop-i-smaller c = let a = c.args in
    let all = four_equal a.a.now (a.at + c.loop-i.i) a.b.now (a.from + c.loop-i.i) (omega arith) (omega arith)
    (sym c.compare_four-four.ensures.same_value ∙ not-false _ c.if-not-four.false) in
    omega (arith, all, c.compare_four-four.ensures.pairs_value)

pub loop-i-preserved : goal.loop-i-preserved
loop-i-preserved c = let a = c.args in
    let same = sym c.compare_four-four.ensures.same_value ∙ not-false _ c.if-not-four.false in
    let all = c.compare_four-four.ensures.pairs_value ∙ four_equal a.a.now (a.at + c.loop-i.i) a.b.now (a.from + c.loop-i.i) (omega arith) (omega arith) same in
    rw all (omega arith, equal_further a.a.now a.b.now a.at a.from c.loop-i.i 4 c.loop-i.invariant.1 same)

pub loop-k-init : goal.loop-k-init
loop-k-init c = c.loop-i.invariant.1

pub returns-then-a-at : goal.returns-then-a-at
returns-then-a-at c = let a = c.args in
    let one = one_differs a.a.now (a.at + c.loop-k.k) a.b.now (a.from + c.loop-k.k) (omega arith) (omega arith) c.if-a-at.true in
    let p = first_difference a.a.now a.b.now a.at a.from a.len c.loop-k.k 1 c.requires.len_in_bounds c.requires.len_in_bounds_2 (omega arith) c.loop-k.invariant one.0 in
    record { same_value = sym p.0; pairs_value = omega (arith, p.1, one.1) }

pub loop-k-preserved : goal.loop-k-preserved
loop-k-preserved c = let i = c.loop-k.k in
    let a = c.args in
    rw (part_snoc a.a.now a.at i (omega arith), part_snoc a.b.now a.from i (omega arith)) (cc)

pub returns : goal.returns
returns c = let a = c.args in
    let e : c.loop-k.k ≡ a.len = omega arith in
    let same = rw e at c.loop-k.invariant in
    record { same_value = sym (same_yes _ _ same); pairs_value = sym (pairs_equal _ _ same ∙ part_length a.a.now a.at a.len c.requires.len_in_bounds) }
