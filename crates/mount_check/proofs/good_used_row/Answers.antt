use Rattle.std.proofs.Common.{sym, ◌∙◌, arith, le-leb}
use borrow.Author.Tests.{lt-leb}
use Rattle.kinds.specs.Mount.{most_path_bytes}
use Rattle.laws.proofs.Count.{true_false}
use Rattle.mount_check.proofs.RowTests.{used_tests}
use Rattle.mount_check.proofs.good_used_row.Goals as goal
use Rattle.mount_check.proofs.good_used_row.Goals.{then-n-le-MOST_PATH_BYTES, else-n-le-MOST_PATH_BYTES}

pub returns-then-table-from-eq47 : goal.returns-then-table-from-eq47
returns-then-table-from-eq47 c = let a = c.args in
    let tests = used_tests a.table.now a.r.0 a.n c.requires.n_value c.row_place-from.result c.row_place-from.ensures.0 (omega arith) c.requires.le_n in
    elim c.if-n-le-MOST_PATH_BYTES.branch [
      | then-n-le-MOST_PATH_BYTES w ↦ rw (tests, le-leb a.n most_path_bytes w.if-n-le-MOST_PATH_BYTES.true, sym w.value-is ∙ c.if-table-from-eq47.true) c.is_zero.ensures
      | else-n-le-MOST_PATH_BYTES w ↦ true_false (sym c.if-table-from-eq47.true ∙ w.value-is ∙ lt-leb a.n most_path_bytes w.if-n-le-MOST_PATH_BYTES.false)
    ]

pub returns-else-table-from-eq47 : goal.returns-else-table-from-eq47
returns-else-table-from-eq47 c = let a = c.args in
    let tests = used_tests a.table.now a.r.0 a.n c.requires.n_value c.row_place-from.result c.row_place-from.ensures.0 (omega arith) c.requires.le_n in
    elim c.if-n-le-MOST_PATH_BYTES.branch [
      | then-n-le-MOST_PATH_BYTES w ↦ rw (tests, le-leb a.n most_path_bytes w.if-n-le-MOST_PATH_BYTES.true, sym w.value-is ∙ c.if-table-from-eq47.false) c.if-table-from-eq47.false
      | else-n-le-MOST_PATH_BYTES w ↦ rw (tests, lt-leb a.n most_path_bytes w.if-n-le-MOST_PATH_BYTES.false) (w.value-is ∙ lt-leb a.n most_path_bytes w.if-n-le-MOST_PATH_BYTES.false)
    ]
