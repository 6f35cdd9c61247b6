use mathlib.Core.Option.{none}
use mathlib.Core.Bool.{not}
use Rattle.spec.specs.Count.{lowest}
use Rattle.spec.specs.Room.{is_used_name}
use mathlib.Core.Path.{◌≡◌}
use Rattle.store_search.proofs.name.find_free_name.Given as goal

abbrev pub invariant-loop-n : goal.invariant-loop-n
invariant-loop-n l = lowest l.n (λ m. not (is_used_name l.store m)) ≡ none
