use Rattle.xdr.proofs.Wrote.{and_then}
use Rattle.reply_bodies.proofs.put_read_bytes.Goals as goal

pub returns : goal.returns
returns c = and_then (rw c.flag.ensures at
    c.put_words-bytes.ensures) c.put_file_bytes.ensures
