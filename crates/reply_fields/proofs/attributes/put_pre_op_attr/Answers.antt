use Rattle.spec.specs.Replies.{pre_op}
use Rattle.reply_fields.proofs.attributes.put_pre_op_attr.Goals as goal

pub returns : goal.returns
unfolding pre_op
returns c = c.put_words.ensures
