use mathlib.Core.Option.{none}
use mathlib.Core.Path.{◌≡◌}
use Prim.Native.Nat.{◌*◌, ◌≤◌}
use Rattle.spec.specs.Count.{sum, lowest}
use Rattle.spec.specs.Room.{is_named, compared_at}
use Rattle.store_records.specs.Text.{text_of}
use Rattle.store_search.proofs.search.search_name.Given as goal

abbrev pub invariant-loop-i : goal.invariant-loop-i
invariant-loop-i l = (l.compared ≤ 32 * l.i) × (lowest l.i (is_named l.store l.directory.0 (text_of l.call l.name)) ≡ none)
    × (l.compared ≡ sum l.i (compared_at l.store l.directory.0 (text_of l.call l.name)))
