use Rattle.xdr.proofs.Wrote.{and_words}
use Rattle.reply_bodies.proofs.put_got_attributes.Goals as goal

pub returns : goal.returns
returns c = and_words _ _ c.put_word-next.ensures c.put_fattr3_of.ensures
