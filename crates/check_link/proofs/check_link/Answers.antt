use native.Mathlib.Omega.{arith}
use Rattle.check_handles.proofs.Reach.{object_reached}
use Rattle.check_link.proofs.check_link.Goals as goal

pub is_directory-requires : goal.is_directory-requires
is_directory-requires c = omega (arith, (object_reached _ _ _ _ c.in_ok-file.was c.reach.ensures).below)
