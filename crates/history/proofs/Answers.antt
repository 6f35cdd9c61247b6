-- What GETATTR and FSSTAT answer, by the book. Assumes nothing.
use mathlib.Core.Path.{◌≡◌, refl, sym, ap, ◌∙◌}
use mathlib.Core.Bool.{Bool, true, false, cond}
use mathlib.Core.Option.{some}
use mathlib.Core.List.{List, [], ◌∷◌, ◌++◌, append-nil}
use Prim.Native.Nat.{ℕ, ◌+◌, ◌*◌, ◌/◌, ◌%◌, ◌≤◌, ◌<◌, ◌-◌}
use native.Mathlib.Omega.{arith}
use lib.Dec.{eqb, leb, lit<}
use lib.ListN.{length}
use borrow.Author.Tests.{eq-eqb, ne_eqb, lt-leb}
use Rattle.kinds.specs.Numbers.{handle_length}
use Rattle.kinds.specs.Layout.{block_length}
use Rattle.kinds.specs.declared.call.Part.{Part}
use Rattle.kinds.specs.declared.call.Arguments.TheVariants as Call
use Rattle.spec.specs.Bytes.{be_at, words}
use Rattle.spec.specs.Checked.{Checked, refused, passed}
use Rattle.spec.specs.Handles.{reach, attributes, size_attribute, link_count}
use Rattle.spec.specs.Image.{Store, stamp, objects, blocks, object_at}
use Rattle.spec.specs.Procedures.{cut, act}
use Rattle.spec.specs.Procedures.Attributes.{getattr}
use Rattle.spec.specs.Procedures.Volume.{room_result, fsstat}
use Rattle.spec.specs.Replies.{result_bytes, fattr3, post_op, hyper}
use Rattle.spec.specs.Results.{Result, Done, dead, got_attributes, settle, unchanged, fail_showing}
use Rattle.spec.specs.Room.{is_live, is_directory, is_free_block, is_available, size_of, free_block_count, available_count, namings, subdirectories}
use Rattle.spec.specs.Rpc.{accepted}
use Rattle.laws.proofs.Count.{by_bool, count_bound}
use Rattle.laws.proofs.Error.{status_of}
use Rattle.laws.proofs.Range.{be_below}
use Rattle.laws.proofs.RecordRange.{object_at_fits}
use Rattle.laws.proofs.Valid.{true_live}
use Rattle.history.specs.Book.{Ledger, handle_bytes, is_status, is_ok}
use Rattle.history.specs.Run.{Request, reply_to}
use Rattle.history.specs.Statement as Shown
use Rattle.history.specs.Statement.{HasLine, lines_of, Names, Asks, object_in, shown_kind, shown_links, shown_total, shown_free, shown_free_again}
use Rattle.history.specs.Statement.{shown_objects, shown_available, shown_available_again}
use Rattle.history.proofs.View.{LiveIn}
use Rattle.history.proofs.Agree.{handle_in}
use Rattle.history.proofs.Handles.{handle_length_lem, handle_stamp, handle_object, handle_generation}
use Rattle.history.proofs.Replies.{BeginsReply, begins, word_of, long_of_lem, ok_is, answered_is}
use Rattle.history.proofs.Seen.{view, kind_at, gen_at, live_in}
use Rattle.history.proofs.Inv.{Inv, tree, good, live_seen}
use Rattle.history.proofs.Making.{handle_seen}
use Rattle.laws.proofs.Handles.{reach_own}
use Rattle.laws.proofs.FreeRoom.{good_size_small}
use Rattle.history.proofs.Lines.{lined_current}
use Rattle.history.proofs.Counts.{file_namings, file_lines_lem}
use Rattle.history.proofs.Later.{small_live}
use Rattle.history.proofs.Noted.{dead_says}
use Rattle.history.proofs.Next.{answer_to_lem}

module _ (σ p q r : ℕ) (s : Store) (L : Ledger) (I : Inv σ p q r s L) where
  mark_small : σ < 4294967296
  unfolding stamp
  mark_small = omega (arith, I.mark, be_below s 4 4 I.bytes)

  -- ---- a handle's checks
  module _ (o g : ℕ) (l : o < p) (m : g < 4294967296) where
    handle : List ℕ
    handle = handle_bytes σ o g

    long : eqb (length handle) handle_length ≡ true
    unfolding handle
    long = eq-eqb (length handle) handle_length (handle_length_lem σ o g)

    object : be_at handle 4 4 ≡ o
    unfolding handle
    object = handle_object σ o g (omega (arith, (tree σ p q r s L I).flat.few))

    within : leb (objects s) (be_at handle 4 4) ≡ false
    within = lt-leb (objects s) (be_at handle 4 4) (omega (arith, object, I.objs))

    marked : eqb (be_at handle 0 4) (stamp s) ≡ true
    unfolding handle
    marked = eq-eqb (be_at handle 0 4) (stamp s) (handle_stamp σ o g mark_small ∙ sym I.mark)

    pub reach_stale : g < (view s).gen o → reach s (handle_bytes σ o g) ≡ refused 70
    unfolding reach handle
    reach_stale n =
        let k : o < objects s = omega (arith, I.objs) in
        let b : eqb (be_at handle 8 4) (object_at s (be_at handle 4 4)).generation ≡ false =
        ne_eqb (be_at handle 8 4) (object_at s (be_at handle 4 4)).generation
        (λ e. omega (arith, handle_generation σ o g m, gen_at s o k, ap (λ (i : ℕ). (object_at s i).generation) object)) in
        by_bool (is_live s (be_at handle 4 4))
        (λ a. rw (long, within, marked, a, b))
        (λ a. rw (long, within, marked, a))

  -- the handle of a live object names it
  pub names_at : (g : List ℕ) (o generation kind : ℕ) → LiveIn (view s) o → g ≡ handle_bytes σ o generation
      → (view s).gen o ≡ generation → (view s).kind o ≡ kind → Names s g o generation kind
  names_at g o generation kind v e x y =
      let k = live_in s o v in
      let m = live_seen σ p q r s L I o v in
      record {
        below = k;
        live = true_live s o m;
        same_generation = sym (gen_at s o k) ∙ x;
        same_type = sym (kind_at s o k) ∙ y;
        reached =
            ap (reach s) (e ∙ ap (handle_bytes σ o) (sym x) ∙ sym (handle_seen σ p q r s L I o k)) ∙ reach_own s o (good σ p q r s L I).sound k m;
      }

  -- a handle with a line is reached
  pub reach_lined : (g : List ℕ) (kind : ℕ) → HasLine L.book g kind
      → (o : ℕ) × (reach s g ≡ passed o) × LiveIn (view s) o × ((view s).kind o ≡ kind) × (object_in g ≡ o) × (g ≡ handle_in σ (view s) o)
  reach_lined g kind x =
      let (o, v, e, f) = lined_current σ p q r s L I g kind x in
      let n = small_live σ p q r s L I o v in
      (o, (names_at g o ((view s).gen o) kind v e refl f).reached, v, f, ap object_in e ∙ handle_object σ o ((view s).gen o) n.0, e)

  -- ---- GETATTR
  got_attributes_lem : (x : Request) (h : Part) → Asks x (Call.Getattr h) → (o : ℕ) → reach s (cut x.call h) ≡ passed o
      → (xid : ℕ) × BeginsReply (reply_to s x) xid (0 ∷ fattr3 (attributes s o)) []
  unfolding act getattr result_bytes
  got_attributes_lem x h k o e =
      let A = answer_to_lem σ p q r s L I x (Call.Getattr h) k in
      let w : (settle s dead (reach s (cut x.call h)) (λ o. unchanged s (got_attributes (attributes s o)))).result ≡ got_attributes (attributes s o) =
      ap (λ (c : Checked ℕ). (settle s dead c (λ o. unchanged s (got_attributes (attributes s o)))).result) e in (
        A.xid,
        A.is ∙ ap (λ (v : Result). accepted A.xid 0 (result_bytes A.procedure v)) w
            ∙ begins A.xid (0 ∷ fattr3 (attributes s o)) [] (words (0 ∷ fattr3 (attributes s o))) (sym (append-nil (words (0 ∷ fattr3 (attributes s o))))),
      )

  -- "GETATTR answers a live handle OK with its type."
  pub getattr_live : (x : Request) (h : Part) (kind : ℕ) → Asks x (Call.Getattr h) → HasLine L.book (cut x.call h) kind
      → (is_ok (reply_to s x) ≡ true) × (shown_kind (reply_to s x) ≡ kind)
  unfolding fattr3 attributes
  getattr_live x h kind k l =
      let (o, e, v, f, i, own) = reach_lined (cut x.call h) kind l in
      let (xid, b) = got_attributes_lem x h k o e in
      let ws : List ℕ = 0 ∷ fattr3 (attributes s o) in
      let n = live_in s o v in (
        ok_is (reply_to s x) xid ws [] b (omega arith) (lit< tt),
        word_of (reply_to s x) xid ws [] b 1 (omega arith) (object_at_fits s o I.bytes).kind ∙ sym (kind_at s o n) ∙ f,
      )

  pub getattr_size : (x : Request) (h : Part) → Asks x (Call.Getattr h) → HasLine L.book (cut x.call h) 1
      → Shown.shown_size (reply_to s x) ≡ size_of s (object_in (cut x.call h))
  unfolding fattr3 attributes size_attribute is_directory
  getattr_size x h k l =
      let (o, e, v, f, i, own) = reach_lined (cut x.call h) 1 l in
      let (xid, b) = got_attributes_lem x h k o e in
      let ws : List ℕ = 0 ∷ fattr3 (attributes s o) in
      let n = live_in s o v in
      let z : size_attribute s o ≡ size_of s o = ap (λ (t : Bool). cond t 512 (size_of s o)) (ne_eqb (object_at s o).kind 2 (λ d. omega (arith, kind_at s o n))) in
      let small : size_attribute s o < 4294967296 = omega (arith, good_size_small s o (I.valid.good_objects o n)) in
      long_of_lem (reply_to s x) xid ws [] b 6 (omega arith) (lit< tt) small ∙ omega (arith, z, ap (size_of s) i)

  -- "A file's nlink counts its names"
  pub getattr_links : (x : Request) (h : Part) → Asks x (Call.Getattr h) → HasLine L.book (cut x.call h) 1
      → shown_links (reply_to s x) ≡ lines_of (cut x.call h) L.book
  unfolding fattr3 attributes link_count is_directory
  getattr_links x h k l =
      let (o, e, v, f, i, own) = reach_lined (cut x.call h) 1 l in
      let (xid, b) = got_attributes_lem x h k o e in
      let ws : List ℕ = 0 ∷ fattr3 (attributes s o) in
      let n = live_in s o v in
      let z : link_count s o ≡ namings s o =
      ap (λ (t : Bool). cond t (2 + subdirectories s o) (namings s o)) (ne_eqb (object_at s o).kind 2 (λ d. omega (arith, kind_at s o n))) in
      let lines = file_namings σ p q r s L I (cut x.call h) o own f in
      word_of (reply_to s x) xid ws [] b 3 (omega arith) (omega (arith, z, lines, file_lines_lem σ p q r s L I (cut x.call h) l)) ∙ z ∙ sym lines

  -- ---- a removed handle
  pub getattr_stale : (x : Request) (h : Part) → Asks x (Call.Getattr h) → (o g : ℕ) → o < p → g < 4294967296 → g < (view s).gen o
      → cut x.call h ≡ handle_bytes σ o g → is_status 70 (reply_to s x) ≡ true
  unfolding act getattr status_of
  getattr_stale x h k o g l m n e =
      let A = answer_to_lem σ p q r s L I x (Call.Getattr h) k in
      let w : (settle s dead (reach s (cut x.call h)) (λ o. unchanged s (got_attributes (attributes s o)))).result ≡ dead 70 =
      ap (λ (c : Checked ℕ). (settle s dead c (λ o. unchanged s (got_attributes (attributes s o)))).result) (ap (reach s) e ∙ reach_stale o g l m n) in
      ap (is_status 70) (A.is ∙ ap (λ (v : Result). accepted A.xid 0 (result_bytes A.procedure v)) w)
      ∙ answered_is A.xid A.procedure (dead 70) (dead_says 70).some (lit< tt) 70

  -- ---- FSSTAT
  room_words : ℕ → List ℕ
  room_words o =
      0 ∷ post_op (attributes s o) ++ hyper (block_length * blocks s) ++ hyper (block_length * free_block_count s) ++ hyper (block_length * free_block_count s)
      ++ hyper (objects s)
      ++ hyper (available_count s) ++ hyper (available_count s) ++ (0 ∷ [])

  got_room_lem : (x : Request) (h : Part) → Asks x (Call.Fsstat h) → (o : ℕ) → reach s (cut x.call h) ≡ passed o
      → (xid : ℕ) × BeginsReply (reply_to s x) xid (room_words o) []
  unfolding act fsstat result_bytes room_words
  got_room_lem x h k o e =
      let A = answer_to_lem σ p q r s L I x (Call.Fsstat h) k in
      let go : ℕ → Done = λ o. unchanged s (room_result s o) in
      let w : (settle s (fail_showing s (cut x.call h)) (reach s (cut x.call h)) go).result ≡ (go o).result =
      ap (λ (c : Checked ℕ). (settle s (fail_showing s (cut x.call h)) c go).result) e in (
        A.xid,
        A.is ∙ ap (λ (v : Result). accepted A.xid 0 (result_bytes A.procedure v)) w
            ∙ begins A.xid (room_words o) [] (words (room_words o)) (sym (append-nil (words (room_words o)))),
      )

  -- a small number as two words
  two_words : (n : ℕ) → n < 4294967296 → (n / 4294967296) * 4294967296 + n % 4294967296 ≡ n
  two_words n l = omega arith

  pub fsstat_room : (x : Request) (h : Part) (kind : ℕ) → Asks x (Call.Fsstat h) → HasLine L.book (cut x.call h) kind
      → (is_ok (reply_to s x) ≡ true)
      × (shown_total (reply_to s x) ≡ block_length * r)
      × (shown_free (reply_to s x) ≡ block_length * free_block_count s) × (shown_free_again (reply_to s x) ≡ block_length * free_block_count s)
      × (shown_objects (reply_to s x) ≡ p)
      × (shown_available (reply_to s x) ≡ available_count s) × (shown_available_again (reply_to s x) ≡ available_count s)
  unfolding room_words post_op fattr3 free_block_count available_count
  fsstat_room x h kind k l =
      let (o, e, v, f, i, own) = reach_lined (cut x.call h) kind l in
      let (xid, b) = got_room_lem x h k o e in
      let few : free_block_count s ≤ blocks s = count_bound (blocks s) (is_free_block s) in
      let some : available_count s ≤ objects s = count_bound (objects s) (is_available s) in
      let w = I.valid.shaped in
      let x1 : block_length * free_block_count s < 4294967296 = omega arith in
      let x2 : available_count s < 4294967296 = omega arith in (
        ok_is (reply_to s x) xid (room_words o) [] b (omega arith) (lit< tt),
        long_of_lem (reply_to s x) xid (room_words o) [] b 23 (omega arith) (omega arith) (omega arith) ∙ omega (arith, I.blks),
        long_of_lem (reply_to s x) xid (room_words o) [] b 25 (omega arith) (omega arith) (omega arith) ∙ two_words (block_length * free_block_count s) x1,
        long_of_lem (reply_to s x) xid (room_words o) [] b 27 (omega arith) (omega arith) (omega arith) ∙ two_words (block_length * free_block_count s) x1,
        long_of_lem (reply_to s x) xid (room_words o) [] b 29 (omega arith) (omega arith) (omega arith) ∙ omega (arith, I.objs),
        long_of_lem (reply_to s x) xid (room_words o) [] b 31 (omega arith) (omega arith) (omega arith) ∙ two_words (available_count s) x2,
        long_of_lem (reply_to s x) xid (room_words o) [] b 33 (omega arith) (omega arith) (omega arith) ∙ two_words (available_count s) x2,
      )
