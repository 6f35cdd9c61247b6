use mathlib.Core.Bool.{false}
use mathlib.Core.Path.{◌≡◌}
use Rattle.spec.specs.Room.{is_in}
use Rattle.spec.specs.Count.{some_below}
use Rattle.check_tree.proofs.has_entries.Given as goal

abbrev pub invariant-loop-i : goal.invariant-loop-i
invariant-loop-i l = some_below l.i (is_in l.store l.directory.0) ≡ false
