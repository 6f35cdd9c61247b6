use Rattle.check_remove.proofs.Entry.{record_inside, child_inside}
use Rattle.check_remove.proofs.check_remove.Goals as goal

pub name_child-requires : goal.name_child-requires
name_child-requires c = record_inside _ c.requires.good_records _ _ _ _ _ c.in_ok-n.was c.check_entry.ensures

pub is_directory-requires : goal.is_directory-requires
is_directory-requires c = rw c.name_child.ensures (child_inside _ c.requires.good_records _ _ _ _ _ c.in_ok-n.was c.check_entry.ensures)
