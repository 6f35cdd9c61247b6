use Rattle.spec.specs.Procedures.{cut}
use Rattle.laws.proofs.Bytes.{part_length}
use Rattle.mount_rows.proofs.Written.{row_written}
use Rattle.mount_rows.proofs.put_row.Goals as goal

pub returns : goal.returns
returns c = let a = c.args in
    row_written a.table.now a.r.0 a.host (cut a.call.now a.path) a.path.length c.row_place-at.result
    _ _ _ _ c.requires.table_len c.requires.r_lt_rows c.row_place-at.ensures.0
    (part_length a.call.now a.path.start a.path.length c.requires.length_in_bounds) c.requires.length_le_most_path_bytes
    c.put_u32.ensures c.put_u32-2.ensures c.copy_bytes.ensures c.clear_bytes.ensures
