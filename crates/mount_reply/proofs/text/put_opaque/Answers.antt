use native.Mathlib.Omega.{arith}
use Rattle.laws.proofs.Bytes.{part_length}
use Rattle.mount_reply.proofs.Opaque.{wrote_opaque}
use Rattle.mount_reply.proofs.text.put_opaque.Goals as goal

pub returns : goal.returns
returns c = let a = c.args in
    wrote_opaque _ (part_length a.src.now a.from a.len (omega arith)) c.padding.ensures c.put_word-text.ensures
    c.put_bytes-end.ensures c.put_zeros.ensures
