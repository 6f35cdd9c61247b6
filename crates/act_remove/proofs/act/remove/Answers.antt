use Rattle.act_remove.proofs.Acts.{remove_found}
use Rattle.act_remove.proofs.act.remove.Goals as goal

pub remove_entry-requires : goal.remove_entry-requires
remove_entry-requires c = let a = c.args in
    let k = remove_found a.store.now a.context c.requires.valid c.requires.good_records c.requires.good_clock a.call.now
    (λ i. (c.type_inv.call i).fits) a.p _ _ _
    c.in-Ok.is c.check_remove.ensures in
    record { good_records = c.requires.good_records; removable_at = k.at; still_good = k.still }
