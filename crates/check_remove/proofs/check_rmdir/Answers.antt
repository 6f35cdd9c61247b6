use Rattle.check_remove.proofs.Entry.{record_inside, child_inside}
use Rattle.check_remove.proofs.check_rmdir.Goals as goal

pub name_child-child-requires : goal.name_child-child-requires
name_child-child-requires c = record_inside _ c.requires.good_records _ _ _ _ _ c.in_ok-n.was c.check_entry.ensures

pub is_directory-requires : goal.is_directory-requires
is_directory-requires c = rw c.name_child-child.ensures (child_inside _ c.requires.good_records _ _ _ _ _ c.in_ok-n.was c.check_entry.ensures)
