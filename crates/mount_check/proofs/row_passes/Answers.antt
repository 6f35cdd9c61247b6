use Rattle.std.proofs.Common.{sym, ◌∙◌, arith}
use Rattle.mount_check.proofs.RowTests.{groups, free_by, used_by, digest_by, short_by}
use Rattle.mount_check.proofs.Whole.{tells_true, tells_false, fails_row, rows_free, rows_used}
use Rattle.mount_check.proofs.row_passes.Goals as goal

pub returns-then-not-good_row : goal.returns-then-not-good_row
returns-then-not-good_row c = tells_false (fails_row c.args.table.now c.args.r.0 c.requires.r_lt_rows (sym c.good_row.ensures ∙ c.if-not-good_row.true))

pub returns-then-n-eq0 : goal.returns-then-n-eq0
returns-then-n-eq0 c = tells_true (rows_free c.args.table.now c.args.r.0 c.args.digests.now c.requires.rows_pass
    (sym c.good_row.ensures ∙ c.if-not-good_row.false)
    (free_by _ _ _ c.path_length-n.ensures c.if-n-eq0.true))

pub sum_words-own-requires : goal.sum_words-own-requires
sum_words-own-requires c = let short = short_by _ _ _ c.path_length-n.ensures
    (sym c.good_row.ensures ∙ c.if-not-good_row.false) in
    omega (arith, short, c.requires.table_len, c.row_place.ensures.1)

pub is_new_pair-requires-clause-r_value : goal.is_new_pair-requires-clause-r_value
is_new_pair-requires-clause-r_value c = used_by _ _ _ c.path_length-n.ensures c.if-n-eq0.false

pub is_new_pair-requires-clause-own_value : goal.is_new_pair-requires-clause-own_value
is_new_pair-requires-clause-own_value c = digest_by _ _ _ c.path_length-n.ensures _ _ c.row_place.ensures.0 (rw (groups _ _ c.div_ceil.ensures) at c.sum_words-own.ensures)

pub returns : goal.returns
returns c = tells_true (rows_used c.args.table.now c.args.r.0 c.sum_words-own.result c.args.digests.now c.requires.r_lt_rows c.requires.rows_pass
    (sym c.good_row.ensures ∙ c.if-not-good_row.false)
    (c.is_new_pair.ensures.holds (c.if-not-is_new_pair.false))
    (digest_by _ _ _ c.path_length-n.ensures _ _ c.row_place.ensures.0 (rw (groups _ _ c.div_ceil.ensures) at c.sum_words-own.ensures)))
