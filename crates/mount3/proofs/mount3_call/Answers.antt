use Rattle.mount3.proofs.Answered.{serves_refused, serves_sent}
use Rattle.mount3.proofs.mount3_call.Goals as goal

pub respond-requires : goal.respond-requires
respond-requires c = let k = c.in-Ok.ensures in
    record { least_mount_reply_bytes_in_bounds = k.room; good_records = k.good; fits = k.fits; read_value = k.read; read_bound = k.inside }

pub returns-in-Err : goal.returns-in-Err
returns-in-Err c = let a = c.args in
    let k = c.in-Err.ensures in
    serves_refused _ _ a.reply.now a.table.now (k a.host)

pub returns-in-Ok : goal.returns-in-Ok
returns-in-Ok c = let a = c.args in
    let k = c.in-Ok.ensures in
    serves_sent _ _ _ _ _ _ (k.serves a.host) c.respond.ensures
