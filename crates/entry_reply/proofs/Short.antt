-- How long a reply is at most. Assumes nothing.
use Prim.Native.Nat.{ℕ, ◌+◌, ◌≤◌}
use mathlib.Core.List.{List, [], ◌∷◌, ◌++◌}
use mathlib.Core.Path.{◌≡◌, refl}
use native.Mathlib.Omega.{arith}
use lib.Dec.{lit≤}
use lib.ListN.{length, take, length-append, length-replicate}
use Rattle.std.specs.Prelude.{Option}
use Rattle.kinds.specs.declared.numbers.ObjectNumber.{ObjectNumber}
use Rattle.kinds.specs.Numbers.{OK, least_reply_bytes, most_transfer_bytes, listing_cost}
use Rattle.spec.specs.Bytes.{bytes_of, words, opaque_bytes}
use Rattle.spec.specs.Edits.{read_file}
use Rattle.spec.specs.Handles.{handle_of, attributes}
use Rattle.spec.specs.Image.{Store}
use Rattle.spec.specs.Count.{bit}
use Rattle.spec.specs.Procedures.Listing.{entries, entries_above}
use Rattle.spec.specs.Replies.{hyper, fattr3, post_op, post_op_option, pre_op, wcc_data, wcc_option, entries_bytes, result_bytes}
use Rattle.spec.specs.Rpc.{SUCCESS, accepted}
use Rattle.laws.proofs.FileBytes.{read_file_length}
use Rattle.laws.proofs.Words.{words_length, opaque_length}
use Rattle.rpc.proofs.Stopped.{accepted_length}
use Rattle.results.specs.Meaning.{handle_attributes_in, handle_change_in, result_of}
use Rattle.results.specs.Writable.{Writable}
use Rattle.results.specs.declared.ObjectChange.{ObjectChange}
use Rattle.results.specs.declared.Reply.{Reply}
use Rattle.reply_bodies.proofs.Sizes.{change_small, object_small}
use Rattle.reply_fields.proofs.ZeroWords.{zero_words_small}

-- ---- the results of a procedure, which fit into the least reply space after the head of the reply
abbrev Short : List ℕ → Type 0
Short results = 24 + length results ≤ least_reply_bytes

renamed_short : (s : Store) (status : ℕ) (c d : Option ObjectChange)
    → Short (words (status ∷ wcc_option (handle_change_in s c) ++ wcc_option (handle_change_in s d)))
renamed_short s status c d =
    let k = change_small s c in
    let l = change_small s d in
    rw (words_length, length-append) (omega arith)

linked_short : (s : Store) (status : ℕ) (o : Option ObjectNumber) (c : Option ObjectChange)
    → Short (words (status ∷ post_op_option (handle_attributes_in s o) ++ wcc_option (handle_change_in s c)))
linked_short s status o c =
    let k = object_small s o in
    let l = change_small s c in
    rw (words_length, length-append) (omega arith)

bytes_short : (ws bytes : List ℕ) → length ws ≡ 25 → length bytes ≤ most_transfer_bytes → Short (words ws ++ opaque_bytes bytes)
bytes_short ws bytes e h = rw (length-append, words_length, opaque_length) (omega arith)

listed_short : (ws es vs : List ℕ) → length ws ≡ 25 → length vs ≡ 2 → listing_cost + length es ≤ most_transfer_bytes → Short (words ws ++ es ++ words vs)
listed_short ws es vs e f h = simp (length-append, words_length) (omega arith)

module _ (s : Store) (p : ℕ) where
  body_short : (r : Reply) → Writable s r → Short (result_bytes p (result_of s r))
  unfolding result_bytes words bytes_of opaque_bytes handle_of fattr3 post_op pre_op wcc_data
  body_short Reply.Null w = lit≤ tt
  body_short (Reply.Dead status) w =
      let k = zero_words_small p in
      rw words_length (simp length-replicate (omega arith))
  body_short (Reply.Failed status o) w = lit≤ tt
  body_short (Reply.Changed status c) w = lit≤ tt
  body_short (Reply.Renamed status c d) w = renamed_short s status.0 c d
  body_short (Reply.Linked status o c) w = linked_short s status.0 o c
  body_short (Reply.GotAttributes o) w = lit≤ tt
  body_short (Reply.Found o d) w = lit≤ tt
  body_short (Reply.Granted o bits) w = lit≤ tt
  body_short (Reply.GotBytes o eof offset n) w =
      bytes_short (OK ∷ post_op (attributes s o.0) ++ (length (read_file s o.0 offset n) ∷ bit eof ∷ [])) (read_file s o.0 offset n) refl
      (rw read_file_length w.few)
  body_short (Reply.Wrote c count verifier) w = lit≤ tt
  body_short (Reply.Created o d) w = lit≤ tt
  body_short (Reply.Listed d eof cookie n) w =
      listed_short (OK ∷ post_op (attributes s d.0) ++ hyper 0) (entries_bytes (take n (entries_above cookie (entries s d.0)))) (0 ∷ bit eof ∷ [])
      refl refl w.few
  body_short (Reply.GotRoom o total free objects available) w = lit≤ tt
  body_short (Reply.GotLimits o) w = lit≤ tt
  body_short (Reply.GotNaming o) w = lit≤ tt
  body_short (Reply.Committed c verifier) w = lit≤ tt

  -- a reply is at most the least reply space
  pub reply_short : (xid : ℕ) (r : Reply) → Writable s r → length (accepted xid SUCCESS (result_bytes p (result_of s r))) ≤ least_reply_bytes
  reply_short xid r w =
      let k = body_short r w in
      rw (accepted_length xid SUCCESS (result_bytes p (result_of s r))) (omega arith)
