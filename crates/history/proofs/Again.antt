-- A CREATE that is sent again: it finds its line, and an EXCLUSIVE one is answered as before. Assumes nothing.
use mathlib.Core.Path.{◌≡◌, refl, sym, ap, ◌∙◌, subst}
use mathlib.Core.Bool.{true}
use mathlib.Core.Option.{some}
use mathlib.Core.List.{List}
use Prim.Native.Nat.{ℕ}
use Rattle.kinds.specs.declared.object.Attributes.{Attributes}
use Rattle.kinds.specs.declared.object.Change.{Change}
use Rattle.kinds.specs.declared.call.NameIn.{NameIn}
use Rattle.kinds.specs.declared.call.How.{How}
use Rattle.kinds.specs.declared.call.How.TheVariants as How
use Rattle.kinds.specs.declared.call.Arguments.{Arguments}
use Rattle.kinds.specs.declared.call.Arguments.TheVariants as Call
use Rattle.spec.specs.Checked.{Checked, refused, passed}
use Rattle.spec.specs.Image.{Store}
use Rattle.spec.specs.Procedures.{cut, act}
use Rattle.spec.specs.Procedures.Names.{Target, new, existing, check_create, create_edit, create}
use Rattle.spec.specs.Results.{created, Done, unchanged, fail_changing, settle}
use Rattle.laws.proofs.Count.{true_false}
use Rattle.laws.proofs.RecordRange.{cut_below}
use Rattle.laws.proofs.Resent.{before_as_after, Resent, resent}
use Rattle.laws.proofs.Valid.{passes_valid}
use Rattle.history.specs.Book.{Line, Ledger, asked, made_handle, is_ok, noted, note}
use Rattle.history.specs.Run.{Request, Lent, outcome_of, reply_to}
use Rattle.history.specs.Statement.{HasName, Asks, directory_in, name_asked}
use Rattle.history.proofs.Inv.{Inv}
use Rattle.history.proofs.Asked.{acted}
use Rattle.history.proofs.Ranges.{asked_fits}
use Rattle.history.proofs.Noted.{Answer, Says, changing_says, created_says, not_ok, add_old}
use Rattle.history.proofs.Statuses.{sure_create}
use Rattle.history.proofs.Next.{answer_to_lem, clocked, next}
use Rattle.history.proofs.Lines.{stand_apart}
use Rattle.history.proofs.Carried.{file_made}
use Rattle.history.proofs.Nospc.{ok_of}
use Rattle.history.proofs.Conditions.{one_standing, met}

module _ (σ p q r : ℕ) (s : Store) (L : Ledger) (I : Inv σ p q r s L) where
  -- a CREATE whose name has a line
  pub found_again : (x : Request) → Lent x → (place : NameIn) (manner : How) (h : List ℕ) → asked x.call ≡ some (Call.Create place manner)
      → HasName L.book (directory_in x place) h (name_asked x place) → is_ok (reply_to s x) ≡ true
      → (made_handle (reply_to s x) ≡ h) × (note x.call (reply_to s x) L ≡ L)
  unfolding note noted
  found_again x l place manner h e (line, m, b, d) t =
      let at = directory_in x place in
      let text = name_asked x place in
      let stays : note x.call (reply_to s x) L ≡ L = rw (t, e) (add_old (made_handle (reply_to s x)) 1 at text L (met L.book at text line m d)) in
      let (other, i, c, f) = subst (λ (M : Ledger). HasName M.book at (made_handle (reply_to s x)) text) stays
      ((file_made σ p q r s L I x l t place manner e).named t) in
      let same = one_standing L.book (stand_apart σ p q r s L I) other line i m (f ∙ sym d) in
      (sym c ∙ ap (λ (y : Line). y.handle) same ∙ b, stays)

  -- EXCLUSIVE CREATE that was answered OK
  module _ (x : Request) (l : Lent x) (place : NameIn) (verifier : ℕ) (k : Asks x (Call.Create place (How.Exclusive verifier)))
      (t : is_ok (reply_to s x) ≡ true) where
    a : Arguments
    a = Call.Create place (How.Exclusive verifier)

    h : List ℕ
    h = cut x.call place.directory

    text : List ℕ
    text = cut x.call place.name

    edit : ℕ × Target → Done
    edit y = create_edit s x.context y.0 text (How.Exclusive verifier) y.1

    -- its result
    Created : Done → Type 0
    Created d =
        (handle : List ℕ) × (file : Attributes) × (directory : Change) × (u : Store) × (d ≡ record { result = created handle file directory; store = u })

    edit_created : (y : ℕ × Target) → Created (edit y)
    unfolding Created edit
    edit_created (d, new o n) = (_, _, _, _, refl)
    edit_created (d, existing o) = (_, _, _, _, refl)

    was_created : Created (create s x.context h text (How.Exclusive verifier))
    unfolding act create a h text edit
    was_created = go (check_create s h text (How.Exclusive verifier)) refl (answer_to_lem σ p q r s L I x a k)
      where
        go : (y : Checked (ℕ × Target)) → check_create s h text (How.Exclusive verifier) ≡ y
            → Answer x.call (reply_to s x) a (settle s (fail_changing s h) y edit).result → Created (settle s (fail_changing s h) y edit)
        go (refused n) e A =
            let b = sure_create s h text (How.Exclusive verifier) n e in
            true_false (sym t ∙ not_ok x.call (reply_to s x) a _ A n (changing_says s h n) b.0 b.1)
        go (passed y) e A = edit_created y

    -- the law of EXCLUSIVE CREATE sent again, for the store that it left
    law : (handle : List ℕ) × (file : Attributes) × (directory : Change) × Resent h text verifier handle file directory (outcome_of s x).store
    unfolding act a h text Created
    law =
        let (handle, file, directory, u, e) = was_created in
        let store : (outcome_of s x).store ≡ u = (acted s x a k (passes_valid s I.valid)).store ∙ ap (λ (d : Done). d.store) e in
        let below = cut_below x.call place.name l.bytes in (
          handle,
          file,
          directory,
          subst (Resent h text verifier handle file directory) (sym store)
              (resent s x.context h text verifier (passes_valid s I.valid) I.bytes (clocked σ p q r s L I x a l k) below
              (asked_fits x.call l.bytes a k.reads) handle file directory u e),
        )

-- the same call again, before any other
pub sent_twice_lem : (σ p q r : ℕ) (s : Store) (L : Ledger) → Inv σ p q r s L → (x y : Request) → Lent x → Lent y → y.call ≡ x.call
    → (place : NameIn) (verifier : ℕ) → Asks x (Call.Create place (How.Exclusive verifier)) → Asks y (Call.Create place (How.Exclusive verifier))
    → is_ok (reply_to s x) ≡ true
    → (is_ok (reply_to (outcome_of s x).store y) ≡ true) × (made_handle (reply_to (outcome_of s x).store y) ≡ made_handle (reply_to s x))
    × ((outcome_of (outcome_of s x).store y).store ≡ (outcome_of s x).store)
    × (note y.call (reply_to (outcome_of s x).store y) (note x.call (reply_to s x) L) ≡ note x.call (reply_to s x) L)
unfolding act h text
sent_twice_lem σ p q r s L I x y l m e place verifier k j t =
    let manner = How.Exclusive verifier in
    let a = Call.Create place manner in
    let u = (outcome_of s x).store in
    let M = note x.call (reply_to s x) L in
    let J = (next σ p q r s L I x l).inv in
    let (handle, file, directory, w) = law σ p q r s L I x l place verifier k t in
    let again : act u y.context y.call a ≡ unchanged u (created handle file (before_as_after directory.after)) =
    ap (λ (c : List ℕ). create u y.context (cut c place.directory) (cut c place.name) manner) e ∙ w.same_call y.context in
    let ok = ok_of y.call (reply_to u y) a _ (answer_to_lem σ p q r u M J y a j) (subst (λ (d : Done). Says d.result 0) (sym again) (created_says _ _ _)) in
    let named = subst (λ (c : List ℕ). HasName M.book (cut c place.directory) (made_handle (reply_to s x)) (cut c place.name)) (sym e)
    ((file_made σ p q r s L I x l t place manner k.reads).named t) in
    let (same, book) = found_again σ p q r u M J y m place manner (made_handle (reply_to s x)) j.reads named ok in
    (ok, same, (acted u y a j (passes_valid u J.valid)).store ∙ ap (λ (d : Done). d.store) again, book)
