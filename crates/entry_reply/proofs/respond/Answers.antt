use mathlib.Core.Path.{◌≡◌, ap}
use native.Mathlib.Omega.{arith}
use lib.ListN.{length}
use Rattle.kinds.specs.Reading.{read_of}
use Rattle.spec.specs.Arguments.{arguments}
use Rattle.spec.specs.Rpc.{nfs}
use Rattle.laws.proofs.ArgumentRange.{arguments_within, arguments_fit}
use Rattle.rpc.specs.Admits.{admission, runs}
use Rattle.rpc.proofs.Admitted.{ran, ran_read}
use Rattle.entry_reply.proofs.Sent.{sends_replied, sends_run, runs_few}
use Rattle.entry_reply.proofs.respond.Goals as goal

pub finish-requires : goal.finish-requires
finish-requires c = let a = c.args in
    let heard = a.heard in
    let m : admission nfs heard.header (read_of heard.arguments) ≡ runs c.in-Ok.h c.in-Ok.a = rw c.nfs.ensures at c.in-Ok.ensures.0 in
    let w = ran nfs heard.header (read_of heard.arguments) c.in-Ok.h c.in-Ok.a m in
    let e = ran_read (λ p. arguments p a.call.now heard.after.at) c.requires.read_value w in
    record {
      least_reply_bytes_in_bounds = omega (arith, ap length c.in-Ok.ensures.1, c.requires.least_reply_bytes_in_bounds);
      ready = c.requires.ready;
      procedure_le_last = runs_few c.in-Ok.h w.judged;
      within = arguments_within c.in-Ok.h.procedure a.call.now heard.after.at _ _ e;
      fits_arguments = arguments_fit c.in-Ok.h.procedure a.call.now (λ i. (c.type_inv.call i).fits) heard.after.at _ _ e;
    }

pub returns-in-Ok : goal.returns-in-Ok
returns-in-Ok c = let a = c.args in
    let heard = a.heard in
    let m : admission nfs heard.header (read_of heard.arguments) ≡ runs c.in-Ok.h c.in-Ok.a = rw c.nfs.ensures at c.in-Ok.ensures.0 in
    sends_run a.store.now a.context a.call.now heard.header heard.after.at _ _ _ _ c.requires.read_value _ _ _ m
    (rw c.in-Ok.ensures.1 at c.finish.ensures)

pub returns-in-Err : goal.returns-in-Err
returns-in-Err c = let a = c.args in
    let heard = a.heard in
    sends_replied a.store.now a.context a.call.now heard.header heard.after.at _ _ _ _ c.requires.read_value
    (rw c.nfs.ensures at c.in-Err.ensures)
