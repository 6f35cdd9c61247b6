use native.Mathlib.Omega.{arith}
use Rattle.xdr.proofs.Wrote.{and_then, sized}
use Rattle.mount_reply.proofs.Decimals.{dotted_bytes}
use Rattle.mount_reply.proofs.text.put_dotted.Goals as goal

pub returns : goal.returns
returns c = rw (dotted_bytes c.args.host c.to_be_bytes.result (omega arith) c.to_be_bytes.ensures)
    (sized _ (and_then (and_then (and_then c.put_decimal-second.ensures c.put_next-third.ensures) c.put_next-fourth.ensures)
    c.put_next.ensures))
