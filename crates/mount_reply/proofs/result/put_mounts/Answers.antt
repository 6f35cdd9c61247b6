use mathlib.Core.Path.{◌≡◌, refl}
use native.Mathlib.Numerals.{add-one}
use native.Mathlib.Omega.{arith}
use Rattle.kinds.specs.Mount.{rows}
use Rattle.mount_spec.specs.Replies.{mounts_bytes}
use Rattle.xdr.proofs.Wrote.{wrote_none, and_then, sized}
use Rattle.mount_reply.proofs.result.put_mounts.Goals as goal

pub loop-i-init : goal.loop-i-init
unfolding mounts_bytes
loop-i-init c = (wrote_none _ _ (omega arith), omega arith, refl)

pub loop-i-preserved : goal.loop-i-preserved
unfolding mounts_bytes
loop-i-preserved c = (rw (add-one c.loop-i.i) (sized _ (and_then c.loop-i.invariant.0 c.put_used-next.ensures.wrote)), omega arith, omega arith)

pub returns : goal.returns
returns c = let e : c.loop-i.i ≡ rows = omega arith in
    sized _ (and_then (rw e at c.loop-i.invariant.0) c.put_word.ensures)
