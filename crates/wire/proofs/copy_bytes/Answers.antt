use Rattle.std.proofs.Common.{◌≡◌, ◌*◌, ◌+◌, sym, arith}
use Rattle.spec.specs.Bytes.{part}
use Rattle.laws.proofs.Bytes.{overlay_step, overlay_none, part_snoc, part_length}
use Rattle.wire.proofs.Copies.{copy_more}
use Rattle.wire.proofs.copy_bytes.Goals as goal

pub loop-k-init : goal.loop-k-init
unfolding part
loop-k-init c = sym (overlay_none _ _)

pub loop-k-preserved : goal.loop-k-preserved
loop-k-preserved c = let a = c.args in
    let i = 16 * c.loop-k.k in
    let e : 16 * (c.loop-k.k + 1) ≡ i + 16 = omega arith in
    rw e (copy_more a.dst.now a.at a.src.now a.from i 16 _ _ (omega arith) (omega arith) c.loop-k.invariant c.copy_piece.ensures)

pub loop-i-preserved : goal.loop-i-preserved
loop-i-preserved c = let i = c.loop-i.i in
    let a = c.args in
    λ b l e.
    rw (part_snoc a.src.now a.from i (omega arith))
    (overlay_step b a.at _ _ i _ (omega arith) (part_length a.src.now a.from i (omega arith)) (c.loop-i.invariant b l e))
