use Rattle.act_link.proofs.Acts.{link_found}
use Rattle.act_link.proofs.link.Goals as goal

pub link_entry-requires : goal.link_entry-requires
link_entry-requires c = let a = c.args in
    let fits = c.requires.length_in_bounds_3 in
    let k = link_found a.store.now a.context c.requires.valid c.requires.good_records c.requires.good_clock a.call.now
    (λ i. (c.type_inv.call i).fits) a.file a.p fits _ _
    c.in-Ok.is c.check_link.ensures in
    record { good_records = c.requires.good_records; linkable_at = k.at; length_le_most_name_bytes = k.short; length_in_bounds = fits; still_good = k.still }
