-- Every handle in an OK reply is a live object's after the call, and that of a line which CREATE or MKDIR adds is new. Assumes nothing.
use mathlib.Core.Path.{◌≡◌, refl, sym, ap, ◌∙◌, subst}
use mathlib.Core.Logic.{◌⊎◌}
use mathlib.Core.Bool.{true}
use mathlib.Core.Option.{Option, some, none}
use mathlib.Core.List.{List, ◌∷◌}
use Prim.Native.Nat.{ℕ}
use native.Mathlib.Omega.{arith}
use lib.ListN.{length}
use Rattle.kinds.specs.declared.call.NameIn.{NameIn}
use Rattle.kinds.specs.declared.call.Settable.{Settable}
use Rattle.kinds.specs.declared.call.How.{How}
use Rattle.kinds.specs.declared.call.Arguments.{Arguments}
use Rattle.kinds.specs.declared.call.Arguments.TheVariants as Call
use Rattle.spec.specs.Checked.{Checked, refused, passed}
use Rattle.spec.specs.Handles.{handle_of, attributes}
use Rattle.spec.specs.Image.{Store, stamp, names, object_at}
use Rattle.spec.specs.Procedures.{cut, act}
use Rattle.spec.specs.Procedures.Names.{check_lookup}
use Rattle.spec.specs.Procedures.Names as Spec
use Rattle.spec.specs.Results.{unchanged, fail_showing, settle, found}
use Rattle.spec.specs.Room.{parent}
use Rattle.laws.proofs.Count.{by_bool, true_false, lowest_passes}
use Rattle.history.proofs.Sum.{holds, holds_true}
use Rattle.laws.proofs.Error.{lookup_store}
use Rattle.laws.proofs.Passed.{lookup_passed, look_found}
use Rattle.laws.proofs.Valid.{passes_valid}
use Rattle.history.specs.Book.{Line, Ledger, asked, found_handle, made_handle, is_ok, note}
use Rattle.history.specs.Run.{Request, Lent, outcome_of, reply_to}
use Rattle.history.specs.Statement.{In, Asks, Carries, lookup, create, mkdir, Makes, makes_file, makes_directory}
use Rattle.history.proofs.View.{LiveIn, names?}
use Rattle.history.proofs.Tree.{Tree}
use Rattle.history.proofs.Walk.{directory_at, naming}
use Rattle.history.proofs.Issue.{Current}
use Rattle.history.proofs.Seen.{view, kind_at, child_at, live_in, parent_same}
use Rattle.history.proofs.Inv.{Inv, tree}
use Rattle.history.proofs.Checks.{found_name_lem}
use Rattle.history.proofs.Statuses.{sure_lookup}
use Rattle.history.proofs.Replies.{found_is}
use Rattle.history.proofs.Asked.{acted, Idle, served}
use Rattle.history.proofs.Ranges.{asked_fits}
use Rattle.history.proofs.Noted.{Answer, showing_says, not_ok}
use Rattle.history.proofs.Making.{handle_seen}
use Rattle.history.proofs.Create.{Made, create_made, mkdir_made}
use Rattle.history.proofs.Lines.{lined_current}
use Rattle.history.proofs.Next.{answer_to_lem, clocked}

module _ (σ p q r : ℕ) (s : Store) (L : Ledger) (I : Inv σ p q r s L) where
  -- a live directory's parent is live
  parent_live : (d : ℕ) → LiveIn (view s) d → LiveIn (view s) (parent s d)
  parent_live d l =
      let T = tree σ p q r s L I in
      let e = parent_same s I.valid.good_names d in
      subst (LiveIn (view s)) e (go T (naming (names s) (view s) d) refl)
    where
      go : Tree p q (view s) → (x : Option ℕ) → naming (names s) (view s) d ≡ x → LiveIn (view s) (directory_at (view s) x)
      go T none z = omega (arith, T.flat.root)
      go T (some n) z = omega (
        arith,
        T.flat.dirs n
            (holds_true (names? (view s) n d) (lowest_passes (λ n. holds (names? (view s) n d)) (names s) n z).passes).0,
      )

  look_facts : (h text : List ℕ) (x : ℕ × ℕ) → check_lookup s h text ≡ passed x → LiveIn (view s) x.1
  look_facts h text x e =
      let w = lookup_passed s h text x e in
      let d = x.0 in
      let l : LiveIn (view s) d = omega (arith, kind_at s d w.reached.below, w.directory) in
      look_found (LiveIn (view s)) s d text x.1 w.found l (parent_live d l) (λ n z.
      let (k, at) = found_name_lem s I.valid.good_names d text n z in
      subst (LiveIn (view s)) (child_at s n k) ((tree σ p q r s L I).flat.ends n at.0))

  lookup_shown : (call reply : List ℕ) (place : NameIn)
      → Answer call reply (Call.Lookup place) (Spec.lookup s (cut call place.directory) (cut call place.name)).result
      → is_ok reply ≡ true → Current σ (view s) (found_handle reply)
  unfolding Spec.lookup handle_of
  lookup_shown call reply place A t = go (check_lookup s h text) refl A
    where
      h : List ℕ
      h = cut call place.directory

      text : List ℕ
      text = cut call place.name

      go : (x : Checked (ℕ × ℕ)) → check_lookup s h text ≡ x
          → Answer call reply (Call.Lookup place) (settle s (fail_showing s h) x
          (λ f. unchanged s (found (handle_of s f.1) (attributes s f.1) (attributes s f.0)))).result
          → Current σ (view s) (found_handle reply)
      go (refused n) e A =
          let b = sure_lookup s h text n e in
          true_false (sym t ∙ not_ok call reply (Call.Lookup place) _ A n (showing_says s h n) b.0 b.1)
      go (passed x) e A =
          let o = x.1 in
          let l = look_facts h text x e in (
            o,
            l,
            ap found_handle A.is ∙ found_is A.xid A.procedure (stamp s) o (object_at s o).generation (attributes s o) (attributes s x.0)
                ∙ handle_seen σ p q r s L I o (live_in s o l),
          )

  -- an OK reply to a call that asks: no check before it refused
  pub asks_of : (x : Request) (a : Arguments) → is_ok (reply_to s x) ≡ true → asked x.call ≡ some a → Asks x a
  asks_of x a t e = go (served s x (passes_valid s I.valid))
    where
      go : Idle s x ⊎ ((b : Arguments) × Asks x b) → Asks x a
      go (◌⊎◌.inl w) = true_false (sym t ∙ unfold is_ok in w.silent 0)
      go (◌⊎◌.inr (b, k)) = let z : some b ≡ some a = sym k.reads ∙ e in let y : b ≡ a = cc in subst (Asks x) y k

  -- "every handle in an OK reply has a line": it is a live object's, in the store after the call
  module _ (x : Request) (l : Lent x) (t : is_ok (reply_to s x) ≡ true) where
    carried_by : (a : Arguments) (h : List ℕ) → asked x.call ≡ some a → (Asks x a → Current σ (view (act s x.context x.call a).store) h)
        → Current σ (view (outcome_of s x).store) h
    carried_by a h e f =
        let k = asks_of x a t e in
        subst (λ (u : Store). Current σ (view u) h) (sym (acted s x a k (passes_valid s I.valid)).store) (f k)

    -- what an OK reply to CREATE and to MKDIR owes: their handle has a line
    pub file_made : (place : NameIn) (manner : How) → asked x.call ≡ some (Call.Create place manner)
        → Made σ p q r s (act s x.context x.call (Call.Create place manner)).store L (note x.call (reply_to s x) L)
        (cut x.call place.directory) (cut x.call place.name) (reply_to s x)
    unfolding act
    file_made place manner e =
        let a = Call.Create place manner in
        let k = asks_of x a t e in
        create_made σ p q r s L I x.context (clocked σ p q r s L I x a l k) x.call (reply_to s x) l.bytes place manner
        (asked_fits x.call l.bytes a e) (answer_to_lem σ p q r s L I x a k)

    directory_made : (place : NameIn) (b : Settable) → asked x.call ≡ some (Call.Mkdir place b)
        → Made σ p q r s (act s x.context x.call (Call.Mkdir place b)).store L (note x.call (reply_to s x) L)
        (cut x.call place.directory) (cut x.call place.name) (reply_to s x)
    unfolding act
    directory_made place b e =
        let a = Call.Mkdir place b in
        let k = asks_of x a t e in
        mkdir_made σ p q r s L I x.context (clocked σ p q r s L I x a l k) x.call (reply_to s x) l.bytes place b
        (asked_fits x.call l.bytes a e) (answer_to_lem σ p q r s L I x a k)

    made_current : {u : Store} {M : Ledger} {d text : List ℕ} → Made σ p q r s u L M d text (reply_to s x) → Current σ (view u) (made_handle (reply_to s x))
    made_current {u} {M} made =
        let (line, m, e, _) = made.named t in
        let (o, v, g, _) = lined_current σ p q r u M made.owes.inv (made_handle (reply_to s x)) line.kind (line, m, e, refl) in
        (o, v, g)

    pub carried : (h : List ℕ) → Carries x (reply_to s x) h → Current σ (view (outcome_of s x).store) h
    unfolding act
    carried h (lookup place e) =
        carried_by (Call.Lookup place) (found_handle (reply_to s x)) e (λ k.
        subst (λ (u : Store). Current σ (view u) (found_handle (reply_to s x)))
        (sym (lookup_store s (cut x.call place.directory) (cut x.call place.name)))
        (lookup_shown x.call (reply_to s x) place (answer_to_lem σ p q r s L I x (Call.Lookup place) k) t))
    carried h (create place manner e) = carried_by (Call.Create place manner) (made_handle (reply_to s x)) e (λ _. made_current (file_made place manner e))
    carried h (mkdir place a e) = carried_by (Call.Mkdir place a) (made_handle (reply_to s x)) e (λ _. made_current (directory_made place a e))

  -- "A line added by CREATE or MKDIR is a new object's, its handle never given out before"
  pub added_fresh : (x : Request) → Lent x → Makes x → (l : Line) → (note x.call (reply_to s x) L).book ≡ l ∷ L.book → In l.handle L.given → ⊥
  unfolding note
  added_fresh x lent makes l e m =
      by_bool (is_ok (reply_to s x))
      (λ t. go t makes)
      (λ t. let stays : note x.call (reply_to s x) L ≡ L = rw t in omega (arith, ap (λ (M : Ledger). length M.book) stays, ap length e))
    where
      go : is_ok (reply_to s x) ≡ true → Makes x → ⊥
      go t (makes_file place manner a) = (file_made x lent t place manner a).fresh l e m
      go t (makes_directory place b a) = (directory_made x lent t place b a).fresh l e m
