use mathlib.Core.Path.{◌≡◌, refl}
use Rattle.spec.specs.Bytes.{bytes_of, zeros}
use Rattle.mount_spec.specs.Table.{row_bytes, put_row, free_row}
use Rattle.mount_rows.proofs.clear_row.Goals as goal

-- the bytes of a free row
free_bytes_lem : zeros 1032 ≡ row_bytes free_row
unfolding row_bytes bytes_of
free_bytes_lem = refl

pub returns : goal.returns
unfolding put_row
returns c = rw (← free_bytes_lem, ← c.row_place.ensures.0) c.clear_bytes.ensures
