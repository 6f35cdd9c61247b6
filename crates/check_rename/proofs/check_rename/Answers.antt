use Rattle.check_handles.proofs.Reach.{directory_reached}
use Rattle.check_rename.proofs.check_rename.Goals as goal

pub check_move-requires-clause-e_bound : goal.check_move-requires-clause-e_bound
check_move-requires-clause-e_bound c = (directory_reached _ _ _ _ c.in_ok-e.was c.reach_directory-2.ensures).0.below
