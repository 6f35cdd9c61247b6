use mathlib.Core.Option.{none}
use Rattle.spec.specs.Count.{lowest}
use Rattle.spec.specs.Room.{is_available}
use mathlib.Core.Path.{◌≡◌}
use Rattle.store_search.proofs.object.find_available.Given as goal

abbrev pub invariant-loop-i : goal.invariant-loop-i
invariant-loop-i l = lowest l.i (is_available l.store) ≡ none
