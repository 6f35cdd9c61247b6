use mathlib.Core.Path.{◌≡◌}
use mathlib.Core.Bool.{true}
use Prim.Native.Nat.{◌-◌, ◌≤◌}
use Rattle.spec.specs.Count.{every}
use Rattle.convert.specs.Links.{has_one_name}
use Rattle.convert.proofs.named_once.Given as goal

abbrev pub invariant-loop-o : goal.invariant-loop-o
invariant-loop-o l = every l.o (has_one_name l.links) ≡ true
