-- What a call of MOUNT does, by what was read of its arguments: its result, and the table after it.
use Rattle.std.specs.Prelude.{ℕ, List}
use Rattle.kinds.specs.declared.mount.MountArguments.{MountArguments}
use Rattle.kinds.specs.declared.mount.MountArguments.TheVariants as Mount
use Rattle.spec.specs.Checked.{Checked, refused, passed, ◌>>=◌}
use Rattle.spec.specs.Image.{Store}
use Rattle.spec.specs.Procedures.{cut}
use Rattle.mount_spec.specs.Path.{mount_point}
use Rattle.mount_spec.specs.Table.{Table, add_pair, remove_pair, remove_host}

-- what a reply says: nothing; a status of MNT; the directory that MNT mounts; the list of mounts; the list of exports
pub data MountResult : Type 0 where
  nothing : MountResult
  failed : ℕ → MountResult
  mounted : ℕ → MountResult
  mounts : MountResult
  exports : MountResult

-- the result, and the table after the call
pub record MountDone : Type 0 where
  pub result : MountResult
  pub table : Table

-- the mounted directory, and the table with its pair: "a full table gives SERVERFAULT, after the path's own failures"
unfoldable pub check_mount : Store → Table → ℕ → List ℕ → Checked (ℕ × Table)
check_mount s t host path = do
  o ← mount_point s path
  u ← add_pair t host path
  passed (o, u)

abbrev pub settle_mount : Table → Checked (ℕ × Table) → MountDone
settle_mount t (refused status) = record { result = failed status; table = t }
settle_mount t (passed p) = record { result = mounted p.0; table = p.1 }

unfoldable pub mount : Store → Table → ℕ → List ℕ → MountDone
mount s t host path = settle_mount t (check_mount s t host path)

-- "NULL, MNT, DUMP, UMNT, UMNTALL, EXPORT"; "It never changes the store."
unfoldable pub act_mount : Store → Table → ℕ → List ℕ → MountArguments → MountDone
act_mount s t host call Mount.Null = record { result = nothing; table = t }
act_mount s t host call (Mount.Mnt path) = mount s t host (cut call path)
act_mount s t host call Mount.Dump = record { result = mounts; table = t }
act_mount s t host call (Mount.Umnt path) = record { result = nothing; table = remove_pair t host (cut call path) }
act_mount s t host call Mount.Umntall = record { result = nothing; table = remove_host t host }
act_mount s t host call Mount.Export = record { result = exports; table = t }
