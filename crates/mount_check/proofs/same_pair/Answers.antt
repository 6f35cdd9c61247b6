use Rattle.std.proofs.Common.{arith}
use Rattle.mount_spec.specs.Table.{row_at}
use Rattle.mount_check.proofs.Same.{used_row}
use Rattle.mount_check.proofs.same_pair.Goals as goal

pub has_pair-requires-clause-length_in_bounds : goal.has_pair-requires-clause-length_in_bounds
has_pair-requires-clause-length_in_bounds c =
    let w = used_row _ _ c.requires.table_len c.requires.r_lt_rows c.requires.r_value c.requires.r_value_2 in
    omega (arith, w.short, c.path_length.ensures, c.requires.table_len, c.row_place.ensures.1)

pub has_pair-requires-clause-length_le_most_path_bytes : goal.has_pair-requires-clause-length_le_most_path_bytes
has_pair-requires-clause-length_le_most_path_bytes c =
    let w = used_row _ _ c.requires.table_len c.requires.r_lt_rows c.requires.r_value c.requires.r_value_2 in
    omega (arith, w.short, c.path_length.ensures)

pub returns : goal.returns
unfolding row_at
returns c = rw (← c.host_of.ensures, ← c.row_place.ensures.0, ← c.path_length.ensures) c.has_pair.ensures
