use Rattle.kinds.specs.Numbers.{most_blocks}
use Rattle.fsck.proofs.Filled.{blank_of}
use Rattle.nfs3.proofs.Answered.{serves_refused, serves_sent}
use Rattle.nfs3.proofs.nfs3_call.Goals as goal

pub open-requires : goal.open-requires
open-requires c = blank_of most_blocks

pub respond-requires : goal.respond-requires
respond-requires c = let k = c.in-Ok.ensures in
    record { least_reply_bytes_in_bounds = k.room; ready = k.ready; read_value = k.read; read_bound = k.inside }

pub returns-in-Err : goal.returns-in-Err
returns-in-Err c = let a = c.args in
    serves_refused _ _ a.reply.now a.store.now c.in-Err.ensures

pub returns-in-Ok : goal.returns-in-Ok
returns-in-Ok c = let k = c.in-Ok.ensures in
    serves_sent _ _ _ _ _ _ k.serves c.respond.ensures
