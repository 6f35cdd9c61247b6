use Rattle.xdr.proofs.Wrote.{and_then}
use Rattle.mount_reply.proofs.text.put_next.Goals as goal

pub returns : goal.returns
returns c = and_then c.put_byte-next.ensures c.put_decimal.ensures
