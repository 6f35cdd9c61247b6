use Rattle.xdr.proofs.Wrote.{and_then}
use Rattle.reply_bodies.proofs.put_listing.Goals as goal

pub returns : goal.returns
returns c = and_then (and_then c.put_words-first.ensures
    c.put_entries-behind.ensures)
    (rw c.flag.ensures at c.put_words.ensures)
