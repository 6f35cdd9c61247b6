use Rattle.mount_spec.specs.Replies.{mount_result_bytes}
use Rattle.xdr.proofs.Wrote.{and_then}
use Rattle.mount_reply.proofs.result.put_mounted.Goals as goal

pub returns : goal.returns
unfolding mount_result_bytes
returns c = and_then (and_then c.put_word-handle.ensures c.put_nfs_fh3-flavors.ensures) c.put_words.ensures
