use Rattle.spec.specs.Replies.{post_op}
use Rattle.xdr.proofs.Wrote.{and_words}
use Rattle.reply_fields.proofs.attributes.put_post_op_attr.Goals as goal

pub returns : goal.returns
unfolding post_op
returns c = and_words _ _ c.put_word-next.ensures c.put_fattr3_of.ensures
