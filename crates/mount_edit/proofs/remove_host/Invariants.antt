use mathlib.Core.Path.{◌≡◌}
use lib.ListN.{length}
use Rattle.kinds.specs.Mount.{table_length}
use Rattle.mount_spec.specs.Table.{strike_rows}
use Rattle.mount_edit.proofs.remove_host.Given as goal

abbrev pub invariant-loop-i : goal.invariant-loop-i
invariant-loop-i l = (l.table ≡ strike_rows l.initial.table l.host l.i) × (length l.table ≡ table_length)
