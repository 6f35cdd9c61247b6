use mathlib.Core.Path.{sym, ap, ◌∙◌}
use mathlib.Core.Bool.{not}
use Rattle.kinds.specs.Mount.{rows}
use Rattle.laws.proofs.Count.{lowest_passes}
use Rattle.mount_spec.specs.Table.{is_used_row, available_row}
use Rattle.mount_edit.specs.Edits.{found_row}
use Rattle.mount_edit.proofs.add_pair.Goals as goal

pub put_row-requires-clause-r_lt_rows : goal.put_row-requires-clause-r_lt_rows
unfolding available_row
put_row-requires-clause-r_lt_rows c =
    (lowest_passes (λ r. not (is_used_row c.args.table.now r)) rows _ (sym c.available_row.ensures ∙ ap found_row c.in-Some.is)).below
