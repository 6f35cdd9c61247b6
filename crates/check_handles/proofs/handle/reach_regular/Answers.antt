use native.Mathlib.Omega.{arith}
use Rattle.check_handles.proofs.Reach.{object_reached}
use Rattle.check_handles.proofs.handle.reach_regular.Goals as goal

pub is_regular-requires : goal.is_regular-requires
is_regular-requires c = omega (arith, (object_reached _ _ _ _ c.in_ok-o.was c.reach.ensures).below)
