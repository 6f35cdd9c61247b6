-- What must hold of a store, a table and an answer so that the reply can be written from them.
use Rattle.std.specs.Prelude.{ℕ, ◌≤◌, ◌<◌, ◌≡◌, length}
use Rattle.kinds.specs.Mount.{rows, most_path_bytes, table_length}
use Rattle.spec.specs.Image.{Store}
use Rattle.results.specs.Writable.{Showable}
use Rattle.mount_spec.specs.Table.{Table, path_length}
use Rattle.mount_results.specs.declared.MountReply.{MountReply}

-- the most bytes of one row in the list of mounts: the word 1, a host of at most 15 bytes, a path of at most 1,024
abbrev pub most_mount_bytes : ℕ
most_mount_bytes = 1052

-- the table is of its length, and no row states a longer path than it has room for
pub record Fits (t : Table) : Type 0 where
  pub long : length t ≡ table_length
  pub short : (r : ℕ) → r < rows → path_length t r ≤ most_path_bytes

abbrev pub WritableMount : Store → Table → MountReply → Type 0
WritableMount s t MountReply.Nothing = Unit {0}
WritableMount s t (MountReply.Failed status) = Unit {0}
WritableMount s t (MountReply.Mounted o) = Showable s o.0
WritableMount s t MountReply.Mounts = Fits t
WritableMount s t MountReply.Exports = Unit {0}
