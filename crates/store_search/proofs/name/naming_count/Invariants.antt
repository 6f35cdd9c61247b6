use Rattle.spec.specs.Count.{count}
use Rattle.spec.specs.Room.{is_naming}
use mathlib.Core.Path.{◌≡◌}
use Prim.Native.Nat.{◌≤◌}
use Rattle.store_search.proofs.name.naming_count.Given as goal

abbrev pub invariant-loop-i : goal.invariant-loop-i
invariant-loop-i l = (l.found ≤ l.i) × (l.found ≡ count l.i (is_naming l.store l.o.0))
