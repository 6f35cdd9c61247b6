use native.Mathlib.Omega.{arith}
use Rattle.entry_reply.proofs.Sent.{sends_done}
use Rattle.entry_reply.proofs.Short.{reply_short}
use Rattle.entry_reply.proofs.finish.Goals as goal

pub replied-requires-clause-length : goal.replied-requires-clause-length
replied-requires-clause-length c = let h = c.args.h in
    let k = reply_short c.run-r.new.store h.procedure h.xid
    c.run-r.result
    c.run-r.ensures.writable in
    omega (arith, c.put_result-next.ensures.place)

pub returns : goal.returns
returns c = sends_done c.args.h _ c.run-r.new.store
    c.run-r.result _
    c.run-r.ensures c.put_result-next.ensures c.replied.ensures
