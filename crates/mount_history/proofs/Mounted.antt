-- The handle in an OK reply to MNT: it is that of a live directory, and has a line in demand 3's book. Assumes nothing.
use mathlib.Core.Path.{◌≡◌, refl, sym, ◌∙◌, subst}
use mathlib.Core.Bool.{true}
use mathlib.Core.Option.{Option, some, none}
use mathlib.Core.List.{List}
use Prim.Native.Nat.{ℕ, ◌<◌}
use native.Mathlib.Omega.{arith}
use lib.ListN.{take}
use Rattle.kinds.specs.Numbers.{DIRECTORY}
use Rattle.kinds.specs.declared.call.Part.{Part}
use Rattle.kinds.specs.declared.mount.MountArguments.{MountArguments}
use Rattle.kinds.specs.declared.mount.MountArguments.TheVariants as Mount
use Rattle.spec.specs.Checked.{Checked, refused, passed}
use Rattle.spec.specs.Handles.{handle_of}
use Rattle.spec.specs.Image.{Store, objects}
use Rattle.spec.specs.Procedures.{cut}
use Rattle.spec.specs.Room.{is_directory}
use Rattle.spec.specs.Rpc.{accepted, SUCCESS}
use Rattle.laws.proofs.Count.{true_false}
use Rattle.laws.proofs.Valid.{Valid, valid, directory_true, true_live}
use Rattle.history.specs.Book.{is_ok, found_handle}
use Rattle.history.specs.Statement.{StoredObject}
use Rattle.history.proofs.Demand.{demand_3}
use Rattle.mount_spec.specs.Procedures.{MountDone, check_mount, settle_mount, mount, act_mount}
use Rattle.mount_spec.specs.Replies.{mount_result_bytes}
use Rattle.mount_spec.specs.Serve.{finish_mount}
use Rattle.mount_spec.specs.Table.{Table}
use Rattle.mount_history.specs.Run.{mount_reply_to}
use Rattle.mount_history.specs.Statement.{MountsDirectory, MountsLine}
use Rattle.mount_history.proofs.Outcomes.{outcomes}
use Rattle.mount_history.proofs.Points.{mount_sure, mount_passed, point_directory}
use Rattle.mount_history.proofs.Replies.{reply_is, none_ok, failed_silent, mounted_handle}

-- the handle of a reply is that of a directory of the store
abbrev OfDirectory : Store → List ℕ → Type 0
OfDirectory s reply = (o : ℕ) × (o < objects s) × (is_directory s o ≡ true) × (found_handle reply ≡ handle_of s o)

-- so it is where the call is MNT, and the reply is OK
abbrev Leads : Store → List ℕ → Option MountArguments → Type 0
Leads s reply a = (path : Part) → a ≡ some (Mount.Mnt path) → is_ok reply ≡ true → OfDirectory s reply

module _ (s : Store) (good : Valid s) (t : Table) (host : ℕ) (call : List ℕ) (xid : ℕ) where
  -- the reply of what a procedure made
  replied : MountDone → List ℕ
  replied d = accepted xid SUCCESS (mount_result_bytes s d.table d.result)

  mount_leads : (path : List ℕ) (c : Checked (ℕ × Table)) → check_mount s t host path ≡ c → is_ok (replied (settle_mount t c)) ≡ true
      → OfDirectory s (replied (settle_mount t c))
  unfolding replied
  mount_leads path (refused status) e ok =
      let (l, h) = mount_sure s t host path status e in true_false (sym ok ∙ failed_silent s t xid status l h)
  mount_leads path (passed p) e ok =
      let (l, d) = point_directory s good path p.0 (mount_passed s t host path p e).0 in (p.0, l, d, mounted_handle s p.1 xid p.0)

  act_leads : (a : MountArguments) → Leads s (replied (act_mount s t host call a)) (some a)
  unfolding act_mount mount
  act_leads (Mount.Mnt path) p e ok = mount_leads (cut call path) (check_mount s t host (cut call path)) refl ok
  act_leads (Mount.Umnt path) p e ok = let z : ◌≡◌ {A = ℕ} 0 1 = cc in absurd (omega arith)
  act_leads Mount.Umntall p e ok = let z : ◌≡◌ {A = ℕ} 0 1 = cc in absurd (omega arith)
  act_leads Mount.Null p e ok = let z : ◌≡◌ {A = ℕ} 0 1 = cc in absurd (omega arith)
  act_leads Mount.Dump p e ok = let z : ◌≡◌ {A = ℕ} 0 1 = cc in absurd (omega arith)
  act_leads Mount.Export p e ok = let z : ◌≡◌ {A = ℕ} 0 1 = cc in absurd (omega arith)

none_some : {A : Type 0} (a : A) → none ≡ some a → ⊥
none_some a e = let z : ◌≡◌ {A = ℕ} 0 1 = cc in omega arith

pub mounts_directory : MountsDirectory
unfolding mount_reply_to replied
mounts_directory t x m =
    let s = x.store in
    outcomes (λ o a. Leads s (take o.length o.space) a) x.call s t x.space x.host
    (λ n a p e ok. true_false (sym ok ∙ none_ok))
    (λ reply offset p e ok. absurd (none_some (Mount.Mnt p) e))
    (λ h _ head a short.
    let r = (finish_mount s head (act_mount s t x.host x.call a)).reply in
    subst (λ (reply : List ℕ). Leads s reply (some a)) (sym (reply_is x.space r))
    (act_leads s (valid s h) t x.host x.call head.xid a))
    m.path m.asks m.ok

pub mounts_line : MountsLine
mounts_line buffer σ p q r clock a b e xs l t x same m =
    let (o, below, directory, handle) = mounts_directory t x m in
    let kind = directory_true x.store o directory in
    let h = found_handle (mount_reply_to t x) in
    let stored : StoredObject x.store h DIRECTORY = (o, below, true_live x.store o (omega (arith, kind)), sym handle, kind) in
    ((demand_3 buffer σ p q r clock a b e xs l).object_lines h DIRECTORY).0 (subst (λ (s : Store). StoredObject s h DIRECTORY) same stored)
