use Rattle.std.proofs.Common.{sym, ◌∙◌}
use Rattle.mount_spec.specs.Table.{good_row}
use Rattle.mount_check.proofs.RowTests.{free_by, used_by, free_zero}
use Rattle.mount_check.proofs.good_row.Goals as goal

pub returns-else-is_zero : goal.returns-else-is_zero
returns-else-is_zero c = let m = c.requires.n_value in
    rw (
      free_zero _ _ _ m _ c.row_place-at.ensures.0 (free_by _ _ _ m c.if-n-eq0.true),
      sym c.is_zero.ensures ∙ c.if-is_zero.false,
    ) c.if-is_zero.false

pub returns-then-is_zero : goal.returns-then-is_zero
returns-then-is_zero c = let m = c.requires.n_value in
    rw (
      free_zero _ _ _ m _ c.row_place-at.ensures.0 (free_by _ _ _ m c.if-n-eq0.true),
      sym c.is_zero.ensures ∙ c.if-is_zero.true,
    ) c.is_zero-then-is_zero.ensures

pub returns : goal.returns
unfolding good_row
returns c = rw (used_by _ _ _ c.requires.n_value c.if-n-eq0.false) c.good_used_row.ensures
