use native.Mathlib.Omega.{arith}
use Prim.Native.Nat.{◌+◌}
use Rattle.fsck_objects.proofs.Passes.{told_true, told_false}
use Rattle.fsck_objects.proofs.Marks.{mark_out, mark_four}
use Rattle.fsck_objects.proofs.object.mark_four.Goals as goal

pub returns-then-a-limit : goal.returns-then-a-limit
returns-then-a-limit c = let a = c.args in
    told_false (mark_out a.store.now a.o.0 a.count a.k c.requires.framed c.requires.live_at (omega arith)
    (omega (arith, c.block_of-a.ensures)))

pub returns-then-b-limit : goal.returns-then-b-limit
returns-then-b-limit c = let a = c.args in
    told_false (mark_out a.store.now a.o.0 a.count (a.k + 1) c.requires.framed c.requires.live_at (omega arith)
    (omega (arith, c.block_of-b.ensures)))

pub returns-then-c-limit : goal.returns-then-c-limit
returns-then-c-limit c = let a = c.args in
    told_false (mark_out a.store.now a.o.0 a.count (a.k + 2) c.requires.framed c.requires.live_at (omega arith)
    (omega (arith, c.block_of-c.ensures)))

pub returns-then-d-limit : goal.returns-then-d-limit
returns-then-d-limit c = let a = c.args in
    told_false (mark_out a.store.now a.o.0 a.count (a.k + 3) c.requires.framed c.requires.live_at (omega arith)
    (omega (arith, c.block_of-d.ensures)))

pub returns : goal.returns
returns c = let a = c.args in
    told_true (mark_four a.store.now a.o.0 a.count a.k c.requires.framed c.requires.live_at c.requires.k_bound a.used.now c.requires.marked_to
    _ _ _ _ c.block_of-a.ensures (omega arith)
    c.block_of-b.ensures (omega arith)
    c.block_of-c.ensures (omega arith)
    c.block_of-d.ensures (omega arith))
