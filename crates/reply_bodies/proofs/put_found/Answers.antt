use Rattle.xdr.proofs.Wrote.{and_then, and_words}
use Rattle.reply_bodies.proofs.put_found.Goals as goal

pub returns : goal.returns
returns c = and_then (and_then c.put_word-handle.ensures c.put_nfs_fh3-object.ensures)
    (and_words _ _ c.put_post_op_attr-directory.ensures c.put_post_op_attr.ensures)
