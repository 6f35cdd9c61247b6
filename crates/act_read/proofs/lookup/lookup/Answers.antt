use Rattle.spec.specs.Procedures.{cut}
use Rattle.act_read.proofs.Found.{looked_below}
use Rattle.act_read.proofs.lookup.lookup.Goals as goal

pub returns-in-Ok-clause-writable : goal.returns-in-Ok-clause-writable
returns-in-Ok-clause-writable c = let a = c.args in
    let b = looked_below a.store.now c.requires.good_records (cut a.call.now a.p.directory) (cut a.call.now a.p.name) _ _
    c.in-Ok.is c.check_lookup.ensures in
    (record { good = c.requires.good_records; object = b.1 }, record { good = c.requires.good_records; object = b.0 })
