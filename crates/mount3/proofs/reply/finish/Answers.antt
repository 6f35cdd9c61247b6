use native.Mathlib.Omega.{arith}
use Rattle.mount3.proofs.Fitting.{acts_writable}
use Rattle.mount3.proofs.Sent.{sends_done}
use Rattle.mount3.proofs.Short.{reply_short}
use Rattle.mount3.proofs.reply.finish.Goals as goal

pub put_mount_result-next-requires : goal.put_mount_result-next-requires
put_mount_result-next-requires c = let a = c.args in
    record { least_mount_reply_bytes_in_bounds = c.requires.least_mount_reply_bytes_in_bounds; writable_mount = acts_writable a.store.now a.host a.call.now a.a c.run_mount-r.result c.requires.fits c.run_mount-r.ensures.acts c.run_mount-r.ensures.mountable }

pub replied-requires-clause-length : goal.replied-requires-clause-length
replied-requires-clause-length c = let a = c.args in
    let w = acts_writable a.store.now a.host a.call.now a.a c.run_mount-r.result c.requires.fits c.run_mount-r.ensures.acts c.run_mount-r.ensures.mountable in
    let k = reply_short a.store.now c.run_mount-r.new.table c.run_mount-r.result a.h.xid w in
    omega (arith, c.put_mount_result-next.ensures.place)

pub returns : goal.returns
returns c = let a = c.args in
    sends_done a.store.now a.h _ c.run_mount-r.new.table c.run_mount-r.result _ c.run_mount-r.ensures.acts c.put_mount_result-next.ensures c.replied.ensures
