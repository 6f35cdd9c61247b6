use Rattle.std.proofs.Common.{◌≡◌, sym, refl, arith}
use Rattle.kinds.specs.Mount.{rows}
use Rattle.mount_check.proofs.Whole.{fails_length, rows_none, rows_pass}
use Rattle.mount_check.proofs.check_table.Goals as goal

pub returns-then-table-ne-TABLE_BYTES : goal.returns-then-table-ne-TABLE_BYTES
returns-then-table-ne-TABLE_BYTES c = sym (fails_length c.args.table.now c.if-table-ne-TABLE_BYTES.true)

pub loop-i-init : goal.loop-i-init
loop-i-init c = rows_none c.args.table.now _ refl

pub returns : goal.returns
returns c = let e : c.loop-i.i ≡ rows = omega arith in
    sym (rows_pass c.args.table.now c.loop-i.digests (rw e at c.loop-i.invariant) c.if-table-ne-TABLE_BYTES.false)
