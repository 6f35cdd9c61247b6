use mathlib.Core.Bool.{◌&&◌}
use Rattle.spec.specs.Count.{count}
use Rattle.spec.specs.Image.{name_at}
use Rattle.spec.specs.Room.{is_in, is_directory}
use mathlib.Core.Path.{◌≡◌}
use Prim.Native.Nat.{◌≤◌}
use Rattle.store_search.proofs.name.subdirectory_count.Given as goal

abbrev pub invariant-loop-i : goal.invariant-loop-i
invariant-loop-i l = (l.found ≤ l.i) × (l.found ≡ count l.i (λ n. is_in l.store l.directory.0 n && is_directory l.store (name_at l.store n).child))
