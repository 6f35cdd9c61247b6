use mathlib.Core.Path.{◌≡◌, sym}
use Prim.Native.Nat.{◌+◌, ◌/◌}
use native.Mathlib.Omega.{arith}
use Rattle.spec.specs.Bytes.{part}
use Rattle.laws.proofs.Bytes.{overlay_none, part_length}
use Rattle.xdr.proofs.Wrote.{wrote_over}
use Rattle.reply_entries.proofs.Copies.{copy_more, padded_words}
use Rattle.reply_entries.proofs.put_padded.Goals as goal

pub loop-k-init : goal.loop-k-init
unfolding part
loop-k-init c = sym (overlay_none _ _)

pub loop-k-preserved : goal.loop-k-preserved
loop-k-preserved c = let a = c.args in
    let h = c.requires.padded_name in
    let e = padded_words a.len in
    copy_more a.src.now a.from c.loop-k.k a.reply.now a.at _ _ _ h.bytes (omega (arith, e, h.inside)) (omega (arith, e)) c.loop-k.invariant
    c.get_u32-word.ensures c.put_u32.ensures

pub returns : goal.returns
returns c = let a = c.args in
    let h = c.requires.padded_name in
    let e : c.loop-k.k ≡ (a.len + 3) / 4 = omega arith in
    let copied = rw e at c.loop-k.invariant in
    rw (padded_words a.len, ← h.padded)
    (wrote_over (rw (padded_words a.len) at copied) (part_length a.src.now a.from _ h.inside) c.requires.len_in_bounds)
