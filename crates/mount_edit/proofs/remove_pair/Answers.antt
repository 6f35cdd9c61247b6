use mathlib.Core.Path.{sym, ap, ◌∙◌}
use Rattle.kinds.specs.Mount.{rows}
use Rattle.spec.specs.Procedures.{cut}
use Rattle.laws.proofs.Count.{lowest_passes}
use Rattle.mount_spec.specs.Table.{has_pair, find_pair}
use Rattle.mount_edit.specs.Edits.{found_row}
use Rattle.mount_edit.proofs.remove_pair.Goals as goal

pub clear_row-requires-clause-r_lt_rows : goal.clear_row-requires-clause-r_lt_rows
unfolding find_pair
clear_row-requires-clause-r_lt_rows c = let a = c.args in
    (lowest_passes (has_pair a.table.now a.host (cut a.call.now a.path)) rows _ (sym c.find_pair.ensures ∙ ap found_row c.in-Some.is)).below
