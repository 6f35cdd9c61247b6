use Rattle.spec.specs.Replies.{wcc_data}
use Rattle.xdr.proofs.Wrote.{and_words}
use Rattle.reply_fields.proofs.attributes.put_wcc_data.Goals as goal

pub returns : goal.returns
unfolding wcc_data
returns c = and_words _ _ c.put_pre_op_attr-next.ensures c.put_post_op_attr.ensures
