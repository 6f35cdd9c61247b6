-- What the words of a reply say: its status, the handle in it, and numbers of 64 bits. Assumes nothing.
use mathlib.Core.Path.{◌≡◌, refl, sym, ap, ap₂, ◌∙◌}
use mathlib.Core.Logic.{◌≢◌}
use mathlib.Core.Bool.{Bool, true, false, ◌&&◌}
use mathlib.Core.List.{List, [], ◌∷◌, ◌++◌, append_assoc, append-nil}
use Prim.Native.Nat.{ℕ, suc, ◌+◌, ◌*◌, ◌≤◌, ◌<◌}
use native.Mathlib.Omega.{arith}
use lib.Dec.{eqb, leb, lit<}
use lib.ListN.{length, get_or, replicate, length-append}
use borrow.Author.Tests.{le-leb, lt-leb, ne_eqb}
use Rattle.kinds.specs.declared.object.Attributes.{Attributes}
use Rattle.kinds.specs.declared.object.Change.{Change}
use Rattle.kinds.specs.Numbers.{zero_words, most_file_bytes, most_name_bytes, most_links, handle_length, most_transfer_bytes, file_system_properties}
use Rattle.spec.specs.Bytes.{part, be_at, bytes_of, words, opaque_bytes}
use Rattle.spec.specs.Count.{bit}
use Rattle.spec.specs.Replies.{result_bytes, fattr3, post_op, post_op_option, wcc_data, wcc_option, entries_bytes, hyper}
use Rattle.spec.specs.Results.{Result, null, dead, failed, changed, renamed, linked, got_attributes, found, granted, got_bytes, wrote, created, listed}
use Rattle.spec.specs.Results.{got_room, got_limits, got_naming, committed}
use Rattle.spec.specs.Rpc.{accepted}
use Rattle.laws.proofs.Bytes.{part_left, part_right, part_whole, be_add}
use Rattle.laws.proofs.Error.{status_of}
use Rattle.laws.proofs.Words.{words_append, words_length}
use Rattle.history.specs.Book.{handle_bytes, status_in, is_status, is_ok, handle_at}
use Rattle.history.proofs.Handles.{word_in}

-- an accepted reply whose results begin with the words ws
abbrev pub BeginsReply : List ℕ → ℕ → List ℕ → List ℕ → Type 0
BeginsReply reply xid ws rest = reply ≡ words (xid ∷ 1 ∷ 0 ∷ 0 ∷ 0 ∷ 0 ∷ ws) ++ rest

pub begins : (xid : ℕ) (ws rest body : List ℕ) → body ≡ words ws ++ rest → BeginsReply (accepted xid 0 body) xid ws rest
unfolding accepted
begins xid ws rest body e =
    let six = xid ∷ 1 ∷ 0 ∷ 0 ∷ 0 ∷ 0 ∷ [] in
    ap (λ (x : List ℕ). words six ++ x) e ∙ sym (append_assoc (words six) (words ws) rest) ∙ ap (λ (x : List ℕ). x ++ rest) (sym (words_append six ws))

module _ (reply : List ℕ) (xid : ℕ) (ws rest : List ℕ) (b : BeginsReply reply xid ws rest) where
  whole : List ℕ
  whole = xid ∷ 1 ∷ 0 ∷ 0 ∷ 0 ∷ 0 ∷ ws

  pub reply_long : 24 + 4 * length ws ≤ length reply
  unfolding whole
  reply_long = omega (arith, ap length b, length-append (words whole) rest, words_length whole)

  -- word k after the header
  pub word_of : (k : ℕ) → k < length ws → get_or ws k 0 < 4294967296 → be_at reply (24 + 4 * k) 4 ≡ get_or ws k 0
  unfolding whole
  word_of k l h =
      let e : 24 + 4 * k ≡ 4 * suc (suc (suc (suc (suc (suc k))))) = omega arith in
      ap₂ (λ (x : List ℕ) (at : ℕ). be_at x at 4) b e ∙ word_in whole rest (suc (suc (suc (suc (suc (suc k)))))) (omega arith) h

  pub accept_stat : be_at reply 20 4 ≡ 0
  unfolding whole
  accept_stat = ap (λ (x : List ℕ). be_at x 20 4) b ∙ word_in whole rest 5 (omega arith) (lit< tt)

  -- words k and k + 1, as one number
  pub long_of_lem : (k : ℕ) → suc k < length ws → get_or ws k 0 < 4294967296 → get_or ws (suc k) 0 < 4294967296
      → be_at reply (24 + 4 * k) 8 ≡ get_or ws k 0 * 4294967296 + get_or ws (suc k) 0
  long_of_lem k l g h =
      let e : 24 + 4 * suc k ≡ 24 + 4 * k + 4 = omega arith in
      be_add reply (24 + 4 * k) 4 4 (omega (arith, reply_long))
      ∙ ap₂ (λ (x y : ℕ). x * 4294967296 + y) (word_of k (omega arith) g) (ap (λ (at : ℕ). be_at reply at 4) (sym e) ∙ word_of (suc k) l h)

  -- whether the status is n
  pub status_test : (n : ℕ) → 0 < length ws → get_or ws 0 0 < 4294967296 → is_status n reply ≡ eqb (get_or ws 0 0) n
  unfolding is_status
  status_test n l h =
      ap₂ (λ (x y : Bool). x && y) (le-leb 28 (length reply) (omega (arith, reply_long)))
      (ap₂ (λ (x y : ℕ). eqb x 0 && eqb y n) accept_stat (word_of 0 l h))

  pub ok_is : 0 < length ws → get_or ws 0 0 < 4294967296 → is_ok reply ≡ eqb (get_or ws 0 0) 0
  unfolding is_ok
  ok_is l h = status_test 0 l h

-- ---- replies that show no status
pub short_silent : (reply : List ℕ) → length reply < 28 → (k : ℕ) → is_status k reply ≡ false
unfolding is_status
short_silent reply l k = ap (λ (t : Bool). t && (eqb (be_at reply 20 4) 0 && eqb (status_in reply) k)) (lt-leb 28 (length reply) l)

-- an accept_stat other than SUCCESS
pub other_silent : (xid stat : ℕ) (body : List ℕ) → 0 < stat → stat < 4294967296 → (k : ℕ) → is_status k (accepted xid stat body) ≡ false
unfolding is_status accepted
other_silent xid stat body l h k =
    let reply = words (xid ∷ 1 ∷ 0 ∷ 0 ∷ 0 ∷ stat ∷ []) ++ body in
    let e : be_at reply 20 4 ≡ stat = word_in (xid ∷ 1 ∷ 0 ∷ 0 ∷ 0 ∷ stat ∷ []) body 5 (omega arith) h in
    ap (λ (t : Bool). leb 28 (length reply) && (t && eqb (status_in reply) k)) (ne_eqb (be_at reply 20 4) 0 (λ z. omega arith)) ∙ none (leb 28 (length reply))
  where
    none : (t : Bool) → t && false ≡ false
    none true = refl
    none false = refl

-- the words between others
pub words_between : (xs ys rest : List ℕ) → part (words (xs ++ ys) ++ rest) (4 * length xs) (4 * length ys) ≡ words ys
words_between xs ys rest =
    ap (λ (x : List ℕ). part x (4 * length xs) (4 * length ys)) (ap (λ (x : List ℕ). x ++ rest) (words_append xs ys) ∙ append_assoc (words xs) (words ys) rest)
    ∙ ap (λ (at : ℕ). part (words xs ++ (words ys ++ rest)) at (4 * length ys)) (omega arith)
    ∙ part_right (words xs) (words ys ++ rest) (4 * length xs) 0 (4 * length ys) (words_length xs)
    ∙ part_left (words ys) rest 0 (4 * length ys) (omega (arith, words_length ys))
    ∙ part_whole (words ys) (4 * length ys) (words_length ys)

-- the handle after the words ws and its length
pub handle_at_lem : (reply : List ℕ) (xid : ℕ) (ws rest : List ℕ) (stamp o g at : ℕ) → BeginsReply reply xid (ws ++ (handle_length ∷ stamp ∷ o ∷ g ∷ [])) rest
    → at ≡ 24 + 4 * length ws → handle_at reply at ≡ handle_bytes stamp o g
handle_at_lem reply xid ws rest stamp o g at b e =
    let hs = stamp ∷ o ∷ g ∷ [] in
    let six = xid ∷ 1 ∷ 0 ∷ 0 ∷ 0 ∷ 0 ∷ [] in
    let n : be_at reply at 4 ≡ handle_length =
    ap (λ (x : ℕ). be_at reply x 4) e
    ∙ word_of reply xid (ws ++ (handle_length ∷ hs)) rest b (length ws) (omega (arith, length-append ws (handle_length ∷ hs)))
    (omega (arith, middle ws handle_length hs))
    ∙ middle ws handle_length hs in
    let split : words (xid ∷ 1 ∷ 0 ∷ 0 ∷ 0 ∷ 0 ∷ ws ++ (handle_length ∷ hs)) ≡ words ((six ++ (ws ++ (handle_length ∷ []))) ++ hs) =
    ap (λ (x : List ℕ). words (six ++ x)) (sym (append_assoc ws (handle_length ∷ []) hs)) in
    let l : length (six ++ (ws ++ (handle_length ∷ []))) ≡ 7 + length ws = omega (arith, length-append ws (handle_length ∷ [])) in
    ap (λ (x : ℕ). part reply (at + 4) x) n
    ∙ ap₂ (λ (x : List ℕ) (y : ℕ). part x y handle_length) (b ∙ ap (λ (x : List ℕ). x ++ rest) split) (omega (arith, ap (λ (x : ℕ). 4 * x) l))
    ∙ words_between (six ++ (ws ++ (handle_length ∷ []))) hs rest
  where
    middle : (xs : List ℕ) (y : ℕ) (ys : List ℕ) → get_or (xs ++ (y ∷ ys)) (length xs) 0 ≡ y
    middle [] y ys = refl
    middle (x ∷ xs) y ys = middle xs y ys

-- ---- the results as words
opaque_handle : (stamp o g : ℕ) → opaque_bytes (handle_bytes stamp o g) ≡ words (handle_length ∷ stamp ∷ o ∷ g ∷ [])
unfolding opaque_bytes words bytes_of
opaque_handle stamp o g = refl

-- what a result's bytes begin with
pub record Starts (p : ℕ) (r : Result) : Type 0 where
  pub ws : List ℕ
  pub rest : List ℕ
  pub is : result_bytes p r ≡ words (status_of r ∷ ws) ++ rest

only_words : (p : ℕ) (r : Result) (ws : List ℕ) → result_bytes p r ≡ words (status_of r ∷ ws) → Starts p r
only_words p r ws e = record { ws = ws; rest = []; is = e ∙ sym (append-nil (words (status_of r ∷ ws))) }

-- every result but NULL's begins with its status
pub starts : (p : ℕ) (r : Result) → r ≢ null → Starts p r
unfolding result_bytes status_of
starts p null n = absurd (n refl)
starts p (dead status) n = only_words p (dead status) (replicate (get_or zero_words p 0) 0) refl
starts p (failed status a) n = only_words p (failed status a) (post_op a) refl
starts p (changed status c) n = only_words p (changed status c) (wcc_data c) refl
starts p (renamed status c d) n = only_words p (renamed status c d) (wcc_option c ++ wcc_option d) refl
starts p (linked status a c) n = only_words p (linked status a c) (post_op_option a ++ wcc_option c) refl
starts p (got_attributes a) n = only_words p (got_attributes a) (fattr3 a) refl
starts p (found h a d) n =
    record { ws = []; rest = opaque_bytes h ++ words (post_op a ++ post_op d); is = append_assoc (words (0 ∷ [])) (opaque_bytes h) (words (post_op a ++ post_op d)) }
starts p (granted a bits) n = only_words p (granted a bits) (post_op a ++ (bits ∷ [])) refl
starts p (got_bytes a eof bytes) n = record { ws = post_op a ++ (length bytes ∷ bit eof ∷ []); rest = opaque_bytes bytes; is = refl }
starts p (wrote c count verifier) n = only_words p (wrote c count verifier) (wcc_data c ++ (count ∷ 2 ∷ hyper verifier)) refl
starts p (created h a d) n =
    record {
      ws = 1 ∷ [];
      rest = opaque_bytes h ++ words (post_op a ++ wcc_data d);
      is = append_assoc (words (0 ∷ 1 ∷ [])) (opaque_bytes h)
          (words (post_op a ++ wcc_data d));
    }
starts p (listed a es eof) n =
    record {
      ws = post_op a ++ hyper 0;
      rest = entries_bytes es ++ words (0 ∷ bit eof ∷ []);
      is = append_assoc (words (0 ∷ post_op a ++ hyper 0))
          (entries_bytes es) (words (0 ∷ bit eof ∷ []));
    }
starts p (got_room a total free objects available) n =
    only_words p (got_room a total free objects available)
    (post_op a ++ hyper total ++ hyper free ++ hyper free ++ hyper objects ++ hyper available ++ hyper available ++ (0 ∷ [])) refl
starts p (got_limits a) n =
    only_words p (got_limits a)
    (post_op a ++ (most_transfer_bytes ∷ most_transfer_bytes ∷ 1 ∷ most_transfer_bytes ∷ most_transfer_bytes ∷ 1 ∷ most_transfer_bytes ∷ hyper most_file_bytes)
    ++ (0 ∷ 1 ∷ file_system_properties ∷ [])) refl
starts p (got_naming a) n = only_words p (got_naming a) (post_op a ++ (most_links ∷ most_name_bytes ∷ 1 ∷ 0 ∷ 0 ∷ 1 ∷ [])) refl
starts p (committed c verifier) n = only_words p (committed c verifier) (wcc_data c ++ hyper verifier) refl

-- a reply's status, and whether it is OK
module _ (xid p : ℕ) (r : Result) (n : r ≢ null) (small : status_of r < 4294967296) where
  first_word : BeginsReply (accepted xid 0 (result_bytes p r)) xid (status_of r ∷ (starts p r n).ws) (starts p r n).rest
  first_word = begins xid (status_of r ∷ (starts p r n).ws) (starts p r n).rest (result_bytes p r) (starts p r n).is

  pub answered_is : (k : ℕ) → is_status k (accepted xid 0 (result_bytes p r)) ≡ eqb (status_of r) k
  answered_is k = status_test _ xid (status_of r ∷ (starts p r n).ws) (starts p r n).rest first_word k (omega arith) small

  pub answered_ok : is_ok (accepted xid 0 (result_bytes p r)) ≡ eqb (status_of r) 0
  answered_ok = ok_is _ xid (status_of r ∷ (starts p r n).ws) (starts p r n).rest first_word (omega arith) small

-- the handle in a reply
pub made_is : (xid p stamp o g : ℕ) (a : Attributes) (d : Change) → handle_at (accepted xid 0 (result_bytes p (created (handle_bytes stamp o g) a d)))
    32 ≡ handle_bytes stamp o g
unfolding result_bytes
made_is xid p stamp o g a d =
    handle_at_lem _ xid (0 ∷ 1 ∷ []) (words (post_op a ++ wcc_data d)) stamp o g 32
    (begins xid (0 ∷ 1 ∷ handle_length ∷ stamp ∷ o ∷ g ∷ []) (words (post_op a ++ wcc_data d)) _
    (ap (λ (x : List ℕ). words (0 ∷ 1 ∷ []) ++ x ++ words (post_op a ++ wcc_data d)) (opaque_handle stamp o g)
    ∙ ap (λ (x : List ℕ). x ++ words (post_op a ++ wcc_data d)) (sym (words_append (0 ∷ 1 ∷ []) (handle_length ∷ stamp ∷ o ∷ g ∷ []))))) refl

pub found_is : (xid p stamp o g : ℕ) (a d : Attributes) → handle_at (accepted xid 0 (result_bytes p (found (handle_bytes stamp o g) a d))) 28
    ≡ handle_bytes stamp o g
unfolding result_bytes
found_is xid p stamp o g a d =
    handle_at_lem _ xid (0 ∷ []) (words (post_op a ++ post_op d)) stamp o g 28
    (begins xid (0 ∷ handle_length ∷ stamp ∷ o ∷ g ∷ []) (words (post_op a ++ post_op d)) _
    (ap (λ (x : List ℕ). words (0 ∷ []) ++ x ++ words (post_op a ++ post_op d)) (opaque_handle stamp o g)
    ∙ ap (λ (x : List ℕ). x ++ words (post_op a ++ post_op d)) (sym (words_append (0 ∷ []) (handle_length ∷ stamp ∷ o ∷ g ∷ []))))) refl
