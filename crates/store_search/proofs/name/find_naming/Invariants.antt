use mathlib.Core.Option.{none}
use Rattle.spec.specs.Count.{lowest}
use Rattle.spec.specs.Room.{is_naming}
use mathlib.Core.Path.{◌≡◌}
use Rattle.store_search.proofs.name.find_naming.Given as goal

abbrev pub invariant-loop-i : goal.invariant-loop-i
invariant-loop-i l = lowest l.i (is_naming l.store l.o.0) ≡ none
