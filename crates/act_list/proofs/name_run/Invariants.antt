use Prim.Native.Nat.{◌+◌, ◌≤◌}
use mathlib.Core.Path.{◌≡◌}
use Rattle.spec.specs.Procedures.Listing.{named_entries}
use Rattle.act_list.specs.Run.{open_run, run_of}
use Rattle.act_list.proofs.name_run.Given as goal

abbrev pub invariant-loop-i : goal.invariant-loop-i
invariant-loop-i l = (l.found ≤ l.i + 2) × (open_run l.left l.found ≡ run_of l.given (open_run l.room l.count) (named_entries l.store l.d.0 l.i))
