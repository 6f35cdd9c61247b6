use Rattle.fsck.proofs.Steps.{positive, note_more, note_not_zero}
use native.Mathlib.Omega.{arith}
use Rattle.fsck.proofs.tree.note_steps.Goals as goal

pub loop-depths-init : goal.loop-depths-init
loop-depths-init c = record { known = c.requires.known; below = c.requires.o_lt_p; most = c.requires.count_le_p; depth = c.requires.depth }

pub overflow_sub-d : goal.overflow_sub-d
overflow_sub-d c = let a = c.args in
    let z = note_not_zero a.store.now a.p a.parents.now c.requires.parents c.loop-depths.depths c.loop-depths.at c.loop-depths.d c.loop-depths.invariant
    c.loop-depths-test.true in
    positive c.loop-depths.d z

pub loop-depths-smaller : goal.loop-depths-smaller
loop-depths-smaller c = let a = c.args in
    let z = note_not_zero a.store.now a.p a.parents.now c.requires.parents c.loop-depths.depths c.loop-depths.at c.loop-depths.d c.loop-depths.invariant
    c.loop-depths-test.true in
    omega (arith, positive c.loop-depths.d z)

pub loop-depths-preserved : goal.loop-depths-preserved
loop-depths-preserved c = let a = c.args in
    note_more a.store.now a.p a.parents.now c.requires.parents c.loop-depths.depths c.loop-depths.at c.loop-depths.d c.parent_of-at.result.0
    c.loop-depths.invariant c.loop-depths-test.true c.parent_of-at.ensures

pub returns : goal.returns
returns c = c.loop-depths.invariant.known
