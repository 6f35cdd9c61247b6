use Rattle.act_remove.proofs.Acts.{rename_found}
use Rattle.act_remove.proofs.act.rename.Goals as goal

pub rename_entry-requires : goal.rename_entry-requires
rename_entry-requires c = let a = c.args in
    let fits = c.requires.length_in_bounds_4 in
    let k = rename_found a.store.now a.context c.requires.valid c.requires.good_records c.requires.good_clock a.call.now
    (λ i. (c.type_inv.call i).fits) a.p a.q fits _ _
    c.in-Ok.is c.check_rename.ensures in
    record { good_records = c.requires.good_records; d_bound = k.directory; e_bound = k.target; renamable_at = k.at; length_le_most_name_bytes = k.short; length_in_bounds = fits; still_good = k.still }
