use Rattle.xdr.proofs.Wrote.{wrote_word}
use Rattle.xdr.proofs.write.put_words.Goals as goal

pub loop-w-preserved : goal.loop-w-preserved
loop-w-preserved c = wrote_word c.args.ws.now c.loop-w.w-index c.loop-w-test.true c.loop-w.invariant c.put_word-next.ensures
