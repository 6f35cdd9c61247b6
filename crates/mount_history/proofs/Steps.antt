-- A call on a good mount table leaves a good one, and what the call and its reply tell agrees with it. Assumes nothing.
use mathlib.Core.Path.{◌≡◌, refl, sym, subst}
use mathlib.Core.Logic.{◌≢◌, ◌↔◌, ⊎_elim}
use mathlib.Core.Bool.{Bool, cond}
use mathlib.Core.Option.{Option, some, none}
use mathlib.Core.List.{List, []}
use Prim.Native.Nat.{ℕ, ◌<◌}
use native.Mathlib.Omega.{arith}
use lib.ListN.{length, take}
use Rattle.kinds.specs.declared.call.Part.{Part}
use Rattle.kinds.specs.declared.mount.MountArguments.{MountArguments}
use Rattle.kinds.specs.declared.mount.MountArguments.TheVariants as Mount
use Rattle.spec.specs.Checked.{Checked, refused, passed}
use Rattle.spec.specs.Image.{Store}
use Rattle.spec.specs.Procedures.{cut}
use Rattle.spec.specs.Rpc.{accepted, SUCCESS}
use Rattle.history.specs.Statement.{In}
use Rattle.mount_spec.specs.Procedures.{MountDone, check_mount, settle_mount, mount, act_mount}
use Rattle.mount_spec.specs.Replies.{mount_result_bytes}
use Rattle.mount_spec.specs.Serve.{finish_mount}
use Rattle.mount_spec.specs.Table.{Table, Row, remove_pair, remove_host}
use Rattle.mount_history.specs.Told.{Pairs, pair_of, add_told, strike_pair, strike_host, tell_asked, asked_mount}
use Rattle.mount_history.specs.Run.{MountRequest, mount_outcome_of}
use Rattle.mount_history.proofs.Edits.{Stored, Added, Thinned, added_pair, removed_pair, removed_host}
use Rattle.mount_history.proofs.Lists.{add_back, add_on, add_new, strike_back, strike_on, host_back, host_on}
use Rattle.mount_history.proofs.Outcomes.{outcomes}
use Rattle.mount_laws.proofs.Paths.{ShortPath, PathWithin, part_most}
use Rattle.mount_history.proofs.Points.{mount_sure, mount_passed, point_slash}
use Rattle.mount_history.proofs.Replies.{reply_is, none_ok, none_answered, answered, failed_silent, mounted_ok}
use Rattle.mount_history.proofs.Tables.{GoodTable}

-- "the rows are exactly the pairs that the calls and replies tell"
abbrev pub Agrees : Table → Pairs → Type 0
Agrees t m = (v : Row) → Stored t v ↔ In v m

-- a call with these arguments and this reply leads from t to u
pub record Steps (t u : Table) (host : ℕ) (call reply : List ℕ) (a : Option MountArguments) : Type 0 where
  pub good : GoodTable u
  pub told : (m : Pairs) → Agrees t m → Agrees u (tell_asked host call reply m a)

-- ---- the edits, and the steps of what is told
added_agrees : (t u : Table) (host : ℕ) (path : List ℕ) (m : Pairs) → Added t u (pair_of host path) → Agrees t m → Agrees u (add_told host path m)
added_agrees t u host path m d g v = (
  (λ h. ⊎_elim (λ e. subst (λ (x : Row). In x (add_told host path m)) (sym e) (add_new host path m)) (λ k. add_on host path m v ((g v).0 k)) (d.back v h)),
  (λ h. ⊎_elim (λ e. subst (Stored u) (sym e) d.new) (λ k. d.on v ((g v).1 k)) (add_back host path m v h)),
)

thinned_agrees : (t u : Table) (Keeps : Row → Type 0) (m n : Pairs) → Thinned t u (λ q. Keeps) → ((v : Row) → In v n → In v m × Keeps v)
    → ((v : Row) → In v m → Keeps v → In v n) → Agrees t m → Agrees u n
thinned_agrees t u Keeps m n d back on g v = (
  (λ h. let (a, k) = d.back v h.0 h.1 in on v ((g v).0 (h.0, a)) k),
  (λ h. let (a, k) = back v h in let (q, b) = (g v).1 a in (q, d.on v q b k)),
)

-- ---- a refusal: there is no reply, and nothing is told
silent : (host : ℕ) (call : List ℕ) (m : Pairs) (a : Option MountArguments) → tell_asked host call [] m a ≡ m
unfolding tell_asked
silent host call m none = refl
silent host call m (some (Mount.Mnt path)) = rw none_ok
silent host call m (some (Mount.Umnt path)) = rw none_answered
silent host call m (some Mount.Umntall) = rw none_answered
silent host call m (some Mount.Null) = refl
silent host call m (some Mount.Dump) = refl
silent host call m (some Mount.Export) = refl

-- ---- the procedures
module _ (s : Store) (t : Table) (g : GoodTable t) (host : ℕ) (small : host < 4294967296) (call : List ℕ) (xid : ℕ) where
  -- what a procedure made, and its reply
  After : MountDone → MountArguments → Type 0
  After d a = Steps t d.table host call (accepted xid SUCCESS (mount_result_bytes s d.table d.result)) (some a)

  mounts : (path : Part) → ShortPath (length call) path → (c : Checked (ℕ × Table)) → check_mount s t host (cut call path) ≡ c
      → After (settle_mount t c) (Mount.Mnt path)
  unfolding After tell_asked
  mounts path short (refused status) e =
      let (l, h) = mount_sure s t host (cut call path) status e in
      record {
        good = g;
        told = λ m k. subst (λ (b : Bool). Agrees t (cond b (add_told host (cut call path) m) m)) (sym (failed_silent s t xid status l h)) k;
      }
  mounts path short (passed p) e =
      let (a, b) = mount_passed s t host (cut call path) p e in
      let d = added_pair t g host (cut call path) small (omega (arith, part_most call path.start path.length, short.short))
      (point_slash s (cut call path) p.0 a) p.1 b in
      record {
        good = d.good;
        told = λ m k. subst (λ (x : Bool). Agrees p.1 (cond x (add_told host (cut call path) m) m)) (sym (mounted_ok s p.1 xid p.0))
            (added_agrees t p.1 host (cut call path) m d k);
      }

  acts : (a : MountArguments) → PathWithin (length call) a → After (act_mount s t host call a) a
  unfolding After tell_asked act_mount mount
  acts Mount.Null short = record { good = g; told = λ m k. k }
  acts (Mount.Mnt path) short = mounts path short (check_mount s t host (cut call path)) refl
  acts Mount.Dump short = record { good = g; told = λ m k. k }
  acts (Mount.Umnt path) short =
      let d = removed_pair t g host (cut call path) in
      record {
        good = d.good;
        told = λ m k. subst (λ (x : Bool). Agrees (remove_pair t host (cut call path)) (cond x (strike_pair host (cut call path) m) m)) (sym (answered xid _))
            (thinned_agrees t _ (λ v. v ≢ pair_of host (cut call path)) m _ d (strike_back host (cut call path) m) (strike_on host (cut call path) m) k);
      }
  acts Mount.Umntall short =
      let d = removed_host t g host in
      record {
        good = d.good;
        told = λ m k. subst (λ (x : Bool). Agrees (remove_host t host) (cond x (strike_host host m) m)) (sym (answered xid _))
            (thinned_agrees t _ (λ v. v.host ≢ host) m _ d (host_back host m) (host_on host m) k);
      }
  acts Mount.Export short = record { good = g; told = λ m k. k }

-- ---- the entry
pub steps : (t : Table) → GoodTable t → (x : MountRequest) → x.host < 4294967296
    → Steps t (mount_outcome_of t x).table x.host x.call (take (mount_outcome_of t x).length (mount_outcome_of t x).space) (asked_mount x.call)
unfolding After tell_asked
steps t g x small =
    outcomes (λ o a. Steps t o.table x.host x.call (take o.length o.space) a) x.call x.store t x.space x.host
    (λ n a. record { good = g; told = λ m k. subst (Agrees t) (sym (silent x.host x.call m a)) k })
    (λ reply offset. record { good = g; told = λ m k. k })
    (λ _ _ h a short.
    let m = finish_mount x.store h (act_mount x.store t x.host x.call a) in
    subst (λ (reply : List ℕ). Steps t m.table x.host x.call reply (some a)) (sym (reply_is x.space m.reply))
    (acts x.store t g x.host small x.call h.xid a short))
