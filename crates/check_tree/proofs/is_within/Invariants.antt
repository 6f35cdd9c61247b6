use Prim.Native.Nat.{◌<◌}
use mathlib.Core.Bool.{false}
use mathlib.Core.Path.{◌≡◌}
use lib.Dec.{eqb}
use Rattle.spec.specs.Room.{above}
use Rattle.spec.specs.Image.{objects}
use Rattle.spec.specs.Count.{some_below}
use Rattle.check_tree.proofs.is_within.Given as goal

abbrev pub invariant-loop : goal.invariant-loop
invariant-loop l = (l.at < objects l.store) × (l.at ≡ above l.store l.counter l.initial.at) × (some_below l.counter (λ k. eqb (above l.store k l.initial.at) l.o.0) ≡ false)
