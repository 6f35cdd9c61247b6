use Rattle.xdr.proofs.Wrote.{and_words}
use Rattle.reply_bodies.proofs.put_written.Goals as goal

pub returns : goal.returns
returns c = and_words _ _ c.put_words-next.ensures c.put_verifier.ensures
