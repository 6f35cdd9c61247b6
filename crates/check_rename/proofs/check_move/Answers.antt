use mathlib.Core.Path.{sym, ◌∙◌}
use native.Mathlib.Omega.{arith}
use Rattle.store_search.proofs.Entry.{name_found, found_ok}
use Rattle.check_rename.proofs.check_move.Goals as goal

pub name_child-o-requires : goal.name_child-o-requires
name_child-o-requires c =
    let n = found_ok _ _ _ (sym c.ok_or.ensures.value ∙ c.in_ok-name.was) in
    omega (arith, (name_found _ c.requires.good_records _ _ _ _ n c.find_name.ensures).record_below)

pub is_within-requires-clause-o_bound : goal.is_within-requires-clause-o_bound
is_within-requires-clause-o_bound c =
    let n = found_ok _ _ _ (sym c.ok_or.ensures.value ∙ c.in_ok-name.was) in
    rw c.name_child-o.ensures (name_found _ c.requires.good_records _ _ _ _ n c.find_name.ensures).child_below

pub check_onto-requires-clause-o_bound : goal.check_onto-requires-clause-o_bound
check_onto-requires-clause-o_bound c =
    let n = found_ok _ _ _ (sym c.ok_or.ensures.value ∙ c.in_ok-name.was) in
    rw c.name_child-o.ensures (name_found _ c.requires.good_records _ _ _ _ n c.find_name.ensures).child_below
