use Rattle.std.proofs.Common.{arith}
use Rattle.rpc.specs.Meaning.{program_of}
use Rattle.rpc.proofs.Stopped.{stopped_short}
use Rattle.rpc.proofs.admit.admit.Goals as goal

pub replied-requires-in-Err-clause-length : goal.replied-requires-in-Err-clause-length
replied-requires-in-Err-clause-length g c =
    let k = stopped_short (program_of c.args.p) c.in-Call.h.xid c.in-Err.stat.0 in
    omega (arith, c.put_stopped-next.ensures.place)

pub replied-requires-in-Err-arguments-clause-length : goal.replied-requires-in-Err-arguments-clause-length
replied-requires-in-Err-arguments-clause-length g c =
    let k = stopped_short (program_of c.args.p) c.in-Call.h.xid 4 in
    omega (arith, c.put_stopped-next-in-Err-arguments.ensures.place)
