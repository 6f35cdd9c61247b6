use mathlib.Core.Path.{sym}
use Rattle.xdr.proofs.Wrote.{sized}
use Rattle.mount_reply.proofs.Opaque.{wrote_opaque}
use Rattle.mount_reply.proofs.text.put_host.Goals as goal

pub returns-clause-wrote : goal.returns-clause-wrote
returns-clause-wrote c = sized _ (wrote_opaque _ (sym c.dotted_length-n.ensures.0) c.padding.ensures c.put_word-text.ensures
    c.put_dotted-end.ensures c.put_zeros.ensures)
