use mathlib.Core.Path.{◌≡◌, ap}
use native.Mathlib.Omega.{arith}
use lib.ListN.{length}
use Rattle.kinds.specs.Reading.{read_of}
use Rattle.mount_spec.specs.Arguments.{mount_arguments}
use Rattle.mount_spec.specs.Serve.{mount3}
use Rattle.mount_laws.proofs.Paths.{arguments_within}
use Rattle.rpc.specs.Admits.{admission, runs}
use Rattle.rpc.proofs.Admitted.{ran, ran_read}
use Rattle.mount3.proofs.Sent.{sends_replied, sends_run}
use Rattle.mount3.proofs.reply.respond.Goals as goal

pub finish-requires : goal.finish-requires
finish-requires c = let a = c.args in
    let heard = a.heard in
    let m : admission mount3 heard.header (read_of heard.arguments) ≡ runs c.in-Ok.h c.in-Ok.a = rw c.program.ensures at c.in-Ok.ensures.0 in
    let w = ran mount3 heard.header (read_of heard.arguments) c.in-Ok.h c.in-Ok.a m in
    let e = ran_read (λ p. mount_arguments p a.call.now heard.after.at) c.requires.read_value w in
    record {
      least_mount_reply_bytes_in_bounds = omega (arith, ap length c.in-Ok.ensures.1, c.requires.least_mount_reply_bytes_in_bounds);
      good_records = c.requires.good_records;
      fits = c.requires.fits;
      path_within = arguments_within a.call.now c.in-Ok.h.procedure heard.after.at _ _ e;
    }

pub returns-in-Ok : goal.returns-in-Ok
returns-in-Ok c = let a = c.args in
    let heard = a.heard in
    let m : admission mount3 heard.header (read_of heard.arguments) ≡ runs c.in-Ok.h c.in-Ok.a = rw c.program.ensures at c.in-Ok.ensures.0 in
    sends_run a.store.now a.table.now a.host a.call.now heard.header heard.after.at _ _ _ _ c.requires.read_value _ _ _ m
    (rw c.in-Ok.ensures.1 at c.finish.ensures)

pub returns-in-Err : goal.returns-in-Err
returns-in-Err c = let a = c.args in
    let heard = a.heard in
    sends_replied a.store.now a.table.now a.host a.call.now heard.header heard.after.at _ _ _ _ c.requires.read_value
    (rw c.program.ensures at c.in-Err.ensures)
