use Rattle.mount_spec.specs.Replies.{mount_bytes}
use Rattle.mount_spec.specs.Table.{row_at}
use Rattle.xdr.proofs.Wrote.{and_then, sized}
use Rattle.mount_reply.proofs.result.put_mount.Goals as goal

pub returns-clause-wrote : goal.returns-clause-wrote
unfolding mount_bytes row_at
returns-clause-wrote c = rw (← c.host_of.ensures, ← c.path_length-n.ensures, ← c.row_place.ensures.0)
    (sized _ (and_then (and_then c.put_word-host.ensures c.put_host-path.ensures.wrote) c.put_opaque.ensures))
