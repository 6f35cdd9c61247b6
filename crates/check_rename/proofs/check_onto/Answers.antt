use native.Mathlib.Omega.{arith}
use Rattle.store_search.proofs.Entry.{name_found}
use Rattle.check_rename.proofs.check_onto.Goals as goal

pub name_child-other-requires : goal.name_child-other-requires
name_child-other-requires c = omega (arith, (name_found _ c.requires.good_records _ _ _ _ c.in-Some.is c.find_name.ensures).record_below)

pub is_replaceable-requires-clause-other_bound : goal.is_replaceable-requires-clause-other_bound
is_replaceable-requires-clause-other_bound c = rw c.name_child-other.ensures (name_found _ c.requires.good_records _ _ _ _ c.in-Some.is c.find_name.ensures).child_below
