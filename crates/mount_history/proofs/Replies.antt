-- What the bytes of a reply of MOUNT say: whether it is answered, whether it is OK, and the handle in it. Assumes nothing.
use mathlib.Core.Path.{◌≡◌, refl, sym, ap, ◌∙◌}
use mathlib.Core.Bool.{true, false}
use mathlib.Core.List.{List, [], ◌∷◌, ◌++◌, append-nil}
use Prim.Native.Nat.{ℕ, ◌+◌, ◌<◌}
use native.Mathlib.Omega.{arith}
use lib.Dec.{lit<}
use lib.ListN.{length, take, drop}
use lib.Seq.{take_at}
use borrow.Author.Tests.{le-leb, ne_eqb}
use Rattle.kinds.specs.Numbers.{OK, handle_length}
use Rattle.kinds.specs.Mount.{none_flavor, unix_flavor}
use Rattle.spec.specs.Bytes.{overlay, words, bytes_of, opaque_bytes}
use Rattle.spec.specs.Handles.{handle_of}
use Rattle.spec.specs.Image.{Store, stamp, object_at}
use Rattle.spec.specs.Rpc.{accepted}
use Rattle.laws.proofs.Words.{words_append}
use Rattle.history.specs.Book.{is_ok, found_handle}
use Rattle.history.proofs.Replies.{BeginsReply, begins, reply_long, accept_stat, ok_is, handle_at_lem, short_silent}
use Rattle.mount_spec.specs.Procedures.{failed, mounted}
use Rattle.mount_spec.specs.Replies.{mount_result_bytes}
use Rattle.mount_spec.specs.Table.{Table}
use Rattle.mount_history.specs.Told.{is_answered}

-- the first bytes of the reply space are the reply
pub reply_is : (space reply : List ℕ) → take (length reply) (overlay space 0 reply) ≡ reply
unfolding overlay
reply_is space reply = take_at reply (drop (0 + length reply) space) (length reply) refl

-- ---- where there is no reply
pub none_ok : is_ok [] ≡ false
unfolding is_ok
none_ok = short_silent [] (lit< tt) OK

pub none_answered : is_answered [] ≡ false
unfolding is_answered
none_answered = refl

-- ---- where the procedure ran
pub answered : (xid : ℕ) (body : List ℕ) → is_answered (accepted xid 0 body) ≡ true
unfolding is_answered words
answered xid body =
    let reply = accepted xid 0 body in
    let b : BeginsReply reply xid [] body = begins xid [] body body refl in
    rw (le-leb 24 (length reply) (omega (arith, reply_long reply xid [] body b)), accept_stat reply xid [] body b)

-- a failure shows its status
pub failed_silent : (s : Store) (t : Table) (xid status : ℕ) → 0 < status → status < 4294967296
    → is_ok (accepted xid 0 (mount_result_bytes s t (failed status))) ≡ false
unfolding mount_result_bytes
failed_silent s t xid status l h =
    let ws = status ∷ [] in
    ok_is _ xid ws [] (begins xid ws [] (words ws) (sym (append-nil (words ws)))) (lit< tt) h ∙ ne_eqb status 0 (λ e. omega arith)

-- ---- MNT's OK reply
opaque_handle : (s : Store) (o : ℕ) → opaque_bytes (handle_of s o) ≡ words (handle_length ∷ stamp s ∷ o ∷ (object_at s o).generation ∷ [])
unfolding opaque_bytes handle_of words bytes_of
opaque_handle s o = refl

module _ (s : Store) (t : Table) (xid o : ℕ) where
  flavors : List ℕ
  flavors = words (2 ∷ none_flavor ∷ unix_flavor ∷ [])

  head : List ℕ
  head = 0 ∷ handle_length ∷ stamp s ∷ o ∷ (object_at s o).generation ∷ []

  reply : List ℕ
  reply = accepted xid 0 (mount_result_bytes s t (mounted o))

  mounted_begins : BeginsReply reply xid head flavors
  unfolding mount_result_bytes reply head flavors
  mounted_begins =
      begins xid head flavors _
      (ap (λ (x : List ℕ). words (OK ∷ []) ++ x ++ flavors) (opaque_handle s o)
      ∙ ap (λ (x : List ℕ). x ++ flavors) (sym (words_append (0 ∷ []) (handle_length ∷ stamp s ∷ o ∷ (object_at s o).generation ∷ []))))

  pub mounted_ok : is_ok (accepted xid 0 (mount_result_bytes s t (mounted o))) ≡ true
  unfolding reply head
  mounted_ok = ok_is reply xid head flavors mounted_begins (omega arith) (lit< tt)

  pub mounted_handle : found_handle (accepted xid 0 (mount_result_bytes s t (mounted o))) ≡ handle_of s o
  unfolding reply head handle_of
  mounted_handle = handle_at_lem reply xid (0 ∷ []) flavors (stamp s) o (object_at s o).generation 28 mounted_begins refl
