use native.Mathlib.Omega.{arith}
use Rattle.store_search.proofs.Entry.{name_found}
use Rattle.check_make.proofs.checks.check_target.Goals as goal

pub name_child-requires : goal.name_child-requires
name_child-requires c = omega (arith, (name_found _ c.requires.good_records _ _ _ _ c.in-Some.is c.find_name.ensures).record_below)

pub check_existing-requires-clause-o_bound : goal.check_existing-requires-clause-o_bound
check_existing-requires-clause-o_bound c = rw c.name_child.ensures (name_found _ c.requires.good_records _ _ _ _ c.in-Some.is c.find_name.ensures).child_below
