use Rattle.spec.specs.Replies.{fattr3}
use Rattle.reply_fields.proofs.attributes.put_fattr3.Goals as goal

pub returns : goal.returns
unfolding fattr3
returns c = c.put_words.ensures
