use Rattle.mount_check.specs.Rows.{RowsPass}
use Rattle.mount_check.proofs.check_table.Given as goal

abbrev pub invariant-loop-i : goal.invariant-loop-i
invariant-loop-i l = RowsPass l.table l.i l.digests
