-- CREATE and MKDIR: the invariant after the call, with the book's step. Assumes nothing.
use mathlib.Core.Logic.{◌⊎◌}
use mathlib.Core.Path.{◌≡◌, refl, sym, ap, ◌∙◌, subst}
use mathlib.Core.Bool.{true}
use mathlib.Core.Option.{some, none}
use mathlib.Core.List.Memᴰ
use mathlib.Core.List.{List, ◌∷◌}
use Prim.Native.Nat.{ℕ, ◌<◌}
use native.Mathlib.Omega.{arith}
use lib.ListN.{length}
use Rattle.kinds.specs.declared.object.Context.{Context}
use Rattle.kinds.specs.declared.call.NameIn.{NameIn}
use Rattle.kinds.specs.declared.call.Settable.{Settable}
use Rattle.kinds.specs.declared.call.How.{How}
use Rattle.kinds.specs.declared.call.Arguments.{Arguments}
use Rattle.kinds.specs.declared.call.Arguments.TheVariants as Call
use Rattle.spec.specs.Checked.{Checked, refused, passed}
use Rattle.spec.specs.Handles.{handle_of, attributes, change}
use Rattle.spec.specs.Image.{Store, stamp, objects, object_at, name_at}
use Rattle.spec.specs.Procedures.{cut}
use Rattle.spec.specs.Procedures.Attributes.{size_set}
use Rattle.spec.specs.Procedures.Names.{new_object, new_edit, created_in, Target, new, existing, settable_in, check_create, existing_edit, new_file, create_edit}
use Rattle.spec.specs.Procedures.Names.{create, check_mkdir, mkdir}
use Rattle.spec.specs.Results.{Done, created, fail_changing, settle}
use Rattle.spec.specs.Room.{find_name}
use Rattle.laws.proofs.ActGood.{not_given}
use Rattle.laws.proofs.ArgumentRange.{FitsHow}
use Rattle.laws.proofs.Count.{true_false}
use Rattle.laws.proofs.Error.{status_of}
use Rattle.laws.proofs.GoodRecords.{GoodClock}
use Rattle.laws.proofs.NewObject.{new_kind, new_fresh, file_kind, file_fresh}
use Rattle.laws.proofs.Passed.{Reached, NewRoom, ExistingPassed, CreatePassed, create_passed, MkdirPassed, mkdir_passed}
use Rattle.laws.proofs.Range.{Below}
use Rattle.laws.proofs.RecordRange.{cut_below}
use Rattle.laws.proofs.SetAttributes.{FitsSettable, Allowed}
use Rattle.laws.proofs.Valid.{GoodName}
use Rattle.history.specs.Book.{under, Line, Ledger, handle_bytes, made_handle, is_ok, add, noted, note}
use Rattle.history.specs.Statement.{In, HasName}
use Rattle.history.proofs.View.{LiveIn}
use Rattle.history.proofs.Agree.{handle_in}
use Rattle.history.proofs.Issue.{fresh}
use Rattle.history.proofs.Seen.{view, kind_at, child_at, live_in}
use Rattle.history.proofs.Inv.{Inv, Owes, keeps_refl, tree}
use Rattle.history.proofs.Checks.{found_name_lem, no_name}
use Rattle.history.proofs.Replies.{made_is}
use Rattle.history.proofs.Noted.{Answer, created_says, changing_says, not_ok, note_failed, note_ok}
use Rattle.history.proofs.Making.{handle_seen, with_line, new_made, directory_kind, directory_handle, line_added, line_there, existing_keeps}
use Rattle.history.proofs.Lines.{found_line}
use Rattle.history.proofs.Statuses.{sure_create, sure_mkdir}

-- what CREATE and MKDIR owe: the invariant, that the handle in an OK reply has the line of their directory handle and name, and that the handle of a
-- line that they add was never given out
pub record Made (σ p q r : ℕ) (s t : Store) (L M : Ledger) (h text reply : List ℕ) : Type 0 where
  pub owes : Owes σ p q r s t M
  pub named : is_ok reply ≡ true → HasName M.book h (made_handle reply) text
  pub fresh : (l : Line) → M.book ≡ l ∷ L.book → In l.handle L.given → ⊥

module _ (σ p q r : ℕ) (s : Store) (L : Ledger) (I : Inv σ p q r s L) (c : Context) (clock : GoodClock c.clock) (call reply : List ℕ)
    (bytes : Below 256 call) where
  -- the handle of CREATE's or MKDIR's reply
  pub made_handle_lem : (a : Arguments) (t : Store) (o d : ℕ) → Answer call reply a (created (handle_of t o) (attributes t o) (change s t d))
      → made_handle reply ≡ handle_of t o
  unfolding handle_of
  made_handle_lem a t o d A =
      ap made_handle A.is ∙ made_is A.xid A.procedure (stamp t) o (object_at t o).generation (attributes t o) (change s t d)

  -- it has the line of a new object
  line_named : (h text : List ℕ) (o kind d : ℕ) → h ≡ handle_in σ (view s) d → made_handle reply ≡ handle_in σ (view s) o
      → HasName (with_line σ s L o kind d text).book h (made_handle reply) text
  line_named h text o kind d own same = (
    record { handle = handle_in σ (view s) o; kind = kind; standing = under (handle_in σ (view s) d) text },
    Memᴰ.head refl,
    sym same,
    ap (λ (x : List ℕ). under x text) (sym own),
  )

  -- whose handle was never given out
  line_fresh : (o kind d : ℕ) (text : List ℕ) (M : Ledger) → with_line σ s L o kind d text ≡ M → o < objects s → (object_at s o).kind ≡ 0
      → (l : Line) → M.book ≡ l ∷ L.book → In l.handle L.given → ⊥
  line_fresh o kind d text M e k z l f m =
      let b : (with_line σ s L o kind d text).book ≡ l ∷ L.book = ap (λ (K : Ledger). K.book) e ∙ f in
      let x : handle_in σ (view s) o ≡ l.handle = cc in
      fresh p σ (view s) L.given I.issues o (omega (arith, I.objs)) (kind_at s o k ∙ z)
      (subst (λ (g : List ℕ). In g L.given) (sym x) m)

  -- no line is added
  none_added : (M : Ledger) → L ≡ M → (l : Line) → M.book ≡ l ∷ L.book → In l.handle L.given → ⊥
  none_added M e l f m = omega (arith, ap (λ (K : Ledger). length K.book) e, ap length f)

  -- a refusal
  failed_made : (a : Arguments) (h text : List ℕ) (n : ℕ) → 0 < n → n < 4294967296 → Answer call reply a (fail_changing s h n)
      → Made σ p q r s s L (note call reply L) h text reply
  failed_made a h text n l m A =
      let stays = sym (note_failed call reply a _ A n (changing_says s h n) l m L) in
      record {
        owes = subst (Owes σ p q r s s) stays (keeps_refl σ p q r s L I).owes;
        named = λ t. true_false (sym t ∙ not_ok call reply a _ A n (changing_says s h n) l m);
        fresh = none_added (note call reply L) stays;
      }

  -- ---- CREATE
  module _ (place : NameIn) (manner : How) (fits : FitsHow manner) where
    h : List ℕ
    h = cut call place.directory

    text : List ℕ
    text = cut call place.name

    note_created : (t : Store) (o d : ℕ) → Answer call reply (Call.Create place manner) (created (handle_of t o) (attributes t o) (change s t d))
        → note call reply L ≡ add (handle_of t o) 1 h text L
    unfolding noted status_of h text
    note_created t o d A =
        note_ok call reply (Call.Create place manner) _ A (created_says (handle_of t o) (attributes t o) (change s t d)) L
        ∙ ap (λ (x : List ℕ). add x 1 h text L) (made_handle_lem (Call.Create place manner) t o d A)

    -- the handle in the reply has the line of the directory handle and the name
    Named : Ledger → Type 0
    Named M = HasName M.book h (made_handle reply) text

    -- of a new file, and of one that is there
    made_new : (d o n : ℕ) → Reached s h d → (object_at s d).kind ≡ 2 → GoodName text → Allowed (settable_in manner) → find_name s d text ≡ none
        → NewRoom s (size_set (settable_in manner).size 0) o n → Answer call reply (Call.Create place manner) (create_edit s c d text manner (new o n)).result
        → Made σ p q r s (create_edit s c d text manner (new o n)).store L (note call reply L) h text reply
    unfolding h text Named
    made_new d o n w dk good ok z room A =
        let v = new_file c.clock manner in
        let size = (settable_in manner).size in
        let u = new_edit s c v size o n d text in
        let b = cut_below call place.directory bytes in
        let gap = no_name s I.valid.good_names d text z in
        let facts = new_made σ p q r s L I c clock 1 o n d text v size (file_fresh c.clock manner clock fits ok) (file_kind c.clock manner) room
        ok.size good (cut_below call place.name bytes) (directory_kind σ p q r s L I c clock h text d w dk b) gap (λ _. refl) in
        let book : with_line σ s L o 1 d text ≡ note call reply L =
        sym (note_created u o d A ∙ ap (λ (x : List ℕ). add x 1 h text L) facts.handle ∙ line_added σ p q r s L I c clock h text d w dk b o 1 gap) in
        record {
          owes = subst (Owes σ p q r s u) book facts.keeps.owes;
          named = λ _. subst Named book
              (line_named h text o 1 d (directory_handle σ p q r s L I c clock h text d w dk b)
              (made_handle_lem (Call.Create place manner) u o d A ∙ facts.handle));
          fresh = line_fresh o 1 d text (note call reply L) book room.object_below room.object_free;
        }

    made_there : (d o m : ℕ) → Reached s h d → (object_at s d).kind ≡ 2 → Allowed (settable_in manner) → find_name s d text ≡ some m
        → (name_at s m).child ≡ o → ExistingPassed s manner o → Answer call reply (Call.Create place manner) (create_edit s c d text manner (existing o)).result
        → Made σ p q r s (create_edit s c d text manner (existing o)).store L (note call reply L) h text reply
    unfolding h text Named
    made_there d o m w dk ok z is x A =
        let size = (settable_in manner).size in
        let u = existing_edit s c o size in
        let b = cut_below call place.directory bytes in
        let (ml, at) = found_name_lem s I.valid.good_names d text m z in
        let l = live_in s o (subst (LiveIn (view s)) (child_at s m ml ∙ is) ((tree σ p q r s L I).flat.ends m at.0)) in
        let step = existing_keeps σ p q r s L I c clock o size (kind_at s o l ∙ x.regular) ok.size x.room in
        let J = step.owes.inv in
        let same : handle_of u o ≡ handle_of s o =
        handle_seen σ p q r u L J o (omega (arith, J.objs, I.objs, l)) ∙ ap (handle_bytes σ o) (step.gens o) ∙ sym (handle_seen σ p q r s L I o l) in
        let shown : handle_of s (name_at s m).child ≡ made_handle reply =
        ap (handle_of s) is ∙ sym (made_handle_lem (Call.Create place manner) u o d A ∙ same) in
        let book : L ≡ note call reply L = sym (note_created u o d A ∙ line_there σ p q r s L I c clock h text d w dk b _ 1 m at) in
        record {
          owes = subst (Owes σ p q r s u) book step.owes;
          named = λ _. subst Named book (subst (λ (g : List ℕ). HasName L.book h g text) shown
              (found_line σ p q r s L I h text d w.below (directory_handle σ p q r s L I c clock h text d w dk b) m z));
          fresh = none_added (note call reply L) book;
        }

    pub create_made : Answer call reply (Call.Create place manner) (create s c (cut call place.directory) (cut call place.name) manner).result
        → Made σ p q r s (create s c (cut call place.directory) (cut call place.name) manner).store L (note call reply L)
        (cut call place.directory) (cut call place.name) reply
    unfolding create h text
    create_made A = go (check_create s h text manner) refl A
      where
        target : (d : ℕ) (t : Target) → CreatePassed s h text manner d t
            → Answer call reply (Call.Create place manner) (create_edit s c d text manner t).result
            → Made σ p q r s (create_edit s c d text manner t).store L (note call reply L) h text reply
        target d (new o n) k A = let (z, room) = k.target in made_new d o n k.reached k.directory k.good k.allowed z room A
        target d (existing o) k A = let (m, z, is, x) = k.target in made_there d o m k.reached k.directory k.allowed z is x A

        go : (x : Checked (ℕ × Target)) → check_create s h text manner ≡ x
            → Answer call reply (Call.Create place manner) (settle s (fail_changing s h) x (λ p. create_edit s c p.0 text manner p.1)).result
            → Made σ p q r s (settle s (fail_changing s h) x (λ p. create_edit s c p.0 text manner p.1)).store L (note call reply L) h text reply
        go (refused n) e A =
            let b = sure_create s h text manner n e in
            failed_made (Call.Create place manner) h text n b.0 b.1 A
        go (passed x) e A = target x.0 x.1 (create_passed s h text manner x e) A

  -- ---- MKDIR
  module _ (place : NameIn) (a : Settable) (fits : FitsSettable a) where
    g : List ℕ
    g = cut call place.directory

    name : List ℕ
    name = cut call place.name

    mkdir_new : (d o n : ℕ) → MkdirPassed s g name a d o n
        → Answer call reply (Call.Mkdir place a) (created_in s (new_edit s c (new_object c.clock 2 a) a.size o n d name) d o).result
        → Made σ p q r s (new_edit s c (new_object c.clock 2 a) a.size o n d name) L (note call reply L) g name reply
    unfolding g name noted status_of
    mkdir_new d o n w A =
        let v = new_object c.clock 2 a in
        let u = new_edit s c v a.size o n d name in
        let b = cut_below call place.directory bytes in
        let gap = no_name s I.valid.good_names d name w.fresh in
        let room : NewRoom s (size_set a.size 0) o n = subst (λ (z : ℕ). NewRoom s z o n) (sym (not_given a.size w.no_size)) w.room in
        let facts = new_made σ p q r s L I c clock 2 o n d name v a.size (new_fresh c.clock 2 a clock (◌⊎◌.inr refl) fits w.allowed)
        (new_kind c.clock 2 a) room w.allowed.size w.good (cut_below call place.name bytes)
        (directory_kind σ p q r s L I c clock g name d w.reached w.directory b) gap (λ given. true_false (sym given ∙ w.no_size)) in
        let shown = made_handle_lem (Call.Mkdir place a) u o d A ∙ facts.handle in
        let book : with_line σ s L o 2 d name ≡ note call reply L =
        sym (note_ok call reply (Call.Mkdir place a) _ A (created_says _ _ _) L ∙ ap (λ (x : List ℕ). add x 2 g name L) shown
        ∙ line_added σ p q r s L I c clock g name d w.reached w.directory b o 2 gap) in
        record {
          owes = subst (Owes σ p q r s u) book facts.keeps.owes;
          named = λ _. subst (λ (M : Ledger). HasName M.book g (made_handle reply) name) book
              (line_named g name o 2 d (directory_handle σ p q r s L I c clock g name d w.reached w.directory b) shown);
          fresh = line_fresh o 2 d name (note call reply L) book room.object_below room.object_free;
        }

    pub mkdir_made : Answer call reply (Call.Mkdir place a) (mkdir s c (cut call place.directory) (cut call place.name) a).result
        → Made σ p q r s (mkdir s c (cut call place.directory) (cut call place.name) a).store L (note call reply L)
        (cut call place.directory) (cut call place.name) reply
    unfolding mkdir g name
    mkdir_made A = go (check_mkdir s g name a) refl A
      where
        made : ℕ × ℕ × ℕ → Done
        made p = created_in s (new_edit s c (new_object c.clock 2 a) a.size p.1 p.2 p.0 name) p.0 p.1

        go : (x : Checked (ℕ × ℕ × ℕ)) → check_mkdir s g name a ≡ x → Answer call reply (Call.Mkdir place a) (settle s (fail_changing s g) x made).result
            → Made σ p q r s (settle s (fail_changing s g) x made).store L (note call reply L) g name reply
        go (refused n) e A =
            let b = sure_mkdir s g name a n e in
            failed_made (Call.Mkdir place a) g name n b.0 b.1 A
        go (passed x) e A = mkdir_new x.0 x.1 x.2 (mkdir_passed s g name a x e) A
