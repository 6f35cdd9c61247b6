use Rattle.xdr.proofs.Wrote.{and_words}
use Rattle.reply_bodies.proofs.put_status_post_op_attr.Goals as goal

pub returns : goal.returns
returns c = and_words _ _ c.put_word-next.ensures c.put_post_op_attr.ensures
