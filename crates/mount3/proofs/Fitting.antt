-- A table that passes its check fits a reply, and what a procedure answers can be written. Assumes nothing.
use mathlib.Core.Path.{◌≡◌, refl, ◌∙◌}
use mathlib.Core.Bool.{true}
use mathlib.Core.List.{List}
use Prim.Native.Nat.{ℕ}
use native.Mathlib.Omega.{arith}
use Rattle.kinds.specs.declared.mount.MountArguments.{MountArguments}
use Rattle.kinds.specs.declared.mount.MountArguments.TheVariants as Mount
use Rattle.spec.specs.Checked.{Checked, refused, passed}
use Rattle.spec.specs.Image.{Store}
use Rattle.spec.specs.Procedures.{cut}
use Rattle.mount_spec.specs.Procedures.{nothing, mounted, mounts, check_mount, settle_mount, mount, act_mount}
use Rattle.mount_spec.specs.Table.{Table, passes_table}
use Rattle.mount_laws.proofs.Checked.{table_passes}
use Rattle.mount_laws.proofs.Good.{row_short}
use Rattle.mount_results.specs.declared.MountReply.{MountReply}
use Rattle.mount_act.specs.Acts.{Acts, Mountable}
use Rattle.mount_reply.specs.Fits.{Fits, WritableMount}

-- ---- a table that passes
pub table_fits : (t : Table) → passes_table t ≡ true → Fits t
table_fits t e = let w = table_passes t e in record { long = w.long; short = λ r l. row_short t r (w.good r l) }

-- ---- a procedure that ran
-- the list of mounts is not the empty result, and no mounted directory
not_nothing : {A : Type 0} → mounts ≡ nothing → A
not_nothing e = let z : ◌≡◌ {A = ℕ} 0 1 = cc in absurd (omega arith)

not_mounted : {A : Type 0} (o : ℕ) → mounts ≡ mounted o → A
not_mounted o e = let z : ◌≡◌ {A = ℕ} 0 1 = cc in absurd (omega arith)

-- a procedure whose result is the list of mounts leaves the table: first of MNT, whose result is a status or a directory, then of all
settled_kept : (t : Table) (c : Checked (ℕ × Table)) → mounts ≡ (settle_mount t c).result → (settle_mount t c).table ≡ t
settled_kept t (refused status) e = refl
settled_kept t (passed p) e = not_mounted p.0 e

listed_kept : (s : Store) (t : Table) (host : ℕ) (call : List ℕ) (a : MountArguments) → mounts ≡ (act_mount s t host call a).result
    → (act_mount s t host call a).table ≡ t
unfolding act_mount mount
listed_kept s t host call Mount.Null e = refl
listed_kept s t host call (Mount.Mnt path) e = settled_kept t (check_mount s t host (cut call path)) e
listed_kept s t host call Mount.Dump e = refl
listed_kept s t host call (Mount.Umnt path) e = not_nothing e
listed_kept s t host call Mount.Umntall e = not_nothing e
listed_kept s t host call Mount.Export e = refl

-- what a procedure answers can be written with the table that it leaves
pub acts_writable : {t u : Table} (s : Store) (host : ℕ) (call : List ℕ) (a : MountArguments) (r : MountReply) → Fits t
    → Acts (act_mount s t host call a) r u → Mountable s r → WritableMount s u r
acts_writable s host call a MountReply.Nothing f e m = tt
acts_writable s host call a (MountReply.Failed status) f e m = tt
acts_writable s host call a (MountReply.Mounted o) f e m = m
acts_writable {t} {u} s host call a MountReply.Mounts f e m = rw (e.leaves ∙ listed_kept s t host call a e.answers) f
acts_writable s host call a MountReply.Exports f e m = tt
