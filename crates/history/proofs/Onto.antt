-- RENAME onto a name of the same object: nothing changes. Assumes nothing.
use mathlib.Core.Path.{◌≡◌, sym, ap, ◌∙◌, subst}
use mathlib.Core.Bool.{true, false}
use mathlib.Core.Option.{some}
use mathlib.Core.List.{List}
use Prim.Native.Nat.{ℕ}
use native.Mathlib.Omega.{arith}
use lib.Dec.{eqb}
use borrow.Author.Tests.{eq-eqb, ne_eqb}
use Rattle.kinds.specs.declared.call.NameIn.{NameIn}
use Rattle.kinds.specs.declared.call.Arguments.TheVariants as Call
use Rattle.spec.specs.Checked.{Checked, passed}
use Rattle.spec.specs.Count.{iterate}
use Rattle.spec.specs.Handles.{reach_directory, check_name}
use Rattle.spec.specs.Image.{Store, objects, name_at}
use Rattle.spec.specs.Names.{is_dots}
use Rattle.spec.specs.Procedures.{act}
use Rattle.spec.specs.Procedures.Removal.{is_within, Onto, same_object, check_move, check_rename, rename_edit, fail_renaming, renamed_to, rename}
use Rattle.spec.specs.Results.{Done, settle}
use Rattle.spec.specs.Room.{is_directory, find_name, above}
use Rattle.laws.proofs.Count.{by_bool, none_below}
use Rattle.laws.proofs.GoodKept.{used_of}
use Rattle.laws.proofs.Valid.{GoodName, passes_valid, used_true, true_live, directory_true}
use Rattle.history.specs.Book.{Ledger, handle_under, is_ok, noted, note}
use Rattle.history.specs.Run.{Request, Lent, outcome_of, reply_to}
use Rattle.history.specs.Statement.{HasName, Asks, object_in, directory_in, name_asked}
use Rattle.history.proofs.Walk.{parent_in, not_below}
use Rattle.history.proofs.Seen.{view, kind_at, child_at, live_in, above_same}
use Rattle.history.proofs.Inv.{Inv, tree}
use Rattle.history.proofs.Asked.{acted}
use Rattle.history.proofs.Checks.{name_checks, found_name_lem}
use Rattle.history.proofs.Noted.{Answer, Says, renamed_says, replace_same}
use Rattle.history.proofs.Next.{answer_to_lem}
use Rattle.history.proofs.Lines.{object_lines_lem, name_lines_lem, name_handle}
use Rattle.history.proofs.Nospc.{ok_of}
use Rattle.history.proofs.Conditions.{lined, directory_reached, line_found_lem}

module _ (σ p q r : ℕ) (s : Store) (L : Ledger) (I : Inv σ p q r s L) (x : Request) (l : Lent x) (a b : NameIn) (k : Asks x (Call.Rename a b)) where
  -- the book's handle of a name that has a line
  named : (c : NameIn) (j : List ℕ) → HasName L.book (directory_in x c) j (name_asked x c) → handle_under (directory_in x c) (name_asked x c) L.book ≡ some j
  named c j m = name_handle σ p q r s L I (directory_in x c) (name_asked x c) j m

  -- what the call does, by what its checks give
  checks : Checked (ℕ × ℕ × ℕ × Onto)
  checks = check_rename s (directory_in x a) (name_asked x a) (directory_in x b) (name_asked x b)

  done : Checked (ℕ × ℕ × ℕ × Onto) → Done
  done y =
      settle s (fail_renaming s (directory_in x a) (directory_in x b)) y
      (λ p. renamed_to s p.0 p.1 (rename_edit s x.context p.0 p.1 p.2 p.3 (name_asked x b)))

  answer : Answer x.call (reply_to s x) (Call.Rename a b) (done checks).result
  unfolding act rename checks done
  answer = answer_to_lem σ p q r s L I x (Call.Rename a b) k

  left : (outcome_of s x).store ≡ (done checks).store
  unfolding act rename checks done
  left = (acted s x (Call.Rename a b) k (passes_valid s I.valid)).store

  -- a name that has a line: its directory is reached, it passes the tests of names, and it is found with its object
  record Stands (c : NameIn) (j : List ℕ) : Type 0 where
    directory : ℕ
    entry : ℕ
    reached : reach_directory s (directory_in x c) ≡ passed directory
    name : check_name (name_asked x c) ≡ passed tt
    no_dots_lem : is_dots (name_asked x c) ≡ false
    found : find_name s directory (name_asked x c) ≡ some entry
    object : object_in j ≡ (name_at s entry).child

  stands : (c : NameIn) (j : List ℕ) → HasName L.book (directory_in x c) j (name_asked x c) → Stands c j
  stands c j m =
      let (n, l, u, i, e, f) = (name_lines_lem σ p q r s L I (directory_in x c) j (name_asked x c)).1 m in
      let v = used_of s n (used_true s n u) (I.valid.good_names n l) in
      let own = (object_lines_lem σ p q r s L I (directory_in x c) 2).0
      ((name_at s n).directory, v.directory, true_live s (name_at s n).directory (omega (arith, v.in_directory_lem)), i, v.in_directory_lem) in
      let (d, z) = lined σ p q r s L I (directory_in x c) 2 own in
      let (o, g, k) = line_found_lem σ p q r s L I (directory_in x c) (name_asked x c) d z.below z.type z.own j m in
      let (y, w) = name_checks (name_asked x c) (subst GoodName f v.good) in
      record {
        directory = d;
        entry = o;
        reached = directory_reached σ p q r s L I (directory_in x c) d z;
        name = y;
        no_dots_lem = w;
        found = g;
        object = k;
      }

  -- no directory is within the object of one of its names
  not_within : (d n : ℕ) (text : List ℕ) → find_name s d text ≡ some n → is_within s (name_at s n).child d ≡ false
  unfolding is_within
  not_within d n text f =
      let (l, at) = found_name_lem s I.valid.good_names d text n f in
      let T = tree σ p q r s L I in
      let c = (name_at s n).child in
      let child = child_at s n l in
      by_bool (is_directory s c)
      (λ t. rw t (none_below (λ k. eqb (above s k d) c) (objects s) (λ k _. ne_eqb (above s k d) c (λ e.
      not_below p q (view s) T.flat T n k at.0
      (ap (view s).kind child ∙ kind_at s c (live_in s c (omega (arith, T.flat.ends n at.0, ap (view s).kind child))) ∙ directory_true s c t)
      (ap (iterate k (parent_in q (view s))) at.1
      ∙ ap (λ (y : ℕ). iterate k (parent_in y (view s)) d) (sym I.nams) ∙ above_same s I.valid.good_names k d ∙ e ∙ sym child)))))
      (λ t. rw t)

  -- both names have one handle: every check passes
  itself_passes : (j : List ℕ) → HasName L.book (directory_in x a) j (name_asked x a) → HasName L.book (directory_in x b) j (name_asked x b)
      → (d : ℕ) × (e : ℕ) × (n : ℕ) × (checks ≡ passed (d, e, n, same_object))
  unfolding checks check_rename check_move
  itself_passes j m n =
      let A = stands a j m in
      let B = stands b j n in
      let same : (name_at s B.entry).child ≡ (name_at s A.entry).child = sym B.object ∙ A.object in
      let within : is_within s (name_at s A.entry).child B.directory ≡ false =
      ap (λ (o : ℕ). is_within s o B.directory) (sym same) ∙ not_within B.directory B.entry (name_asked x b) B.found in (
        A.directory,
        B.directory,
        A.entry,
        rw (A.reached, B.reached, A.name, B.name, A.no_dots_lem, B.no_dots_lem, A.found, within, B.found, eq-eqb _ _ same),
      )

  -- so it is answered OK, and neither store nor book changes
  pub onto_itself_lem : (j : List ℕ) → HasName L.book (directory_in x a) j (name_asked x a) → HasName L.book (directory_in x b) j (name_asked x b)
      → (is_ok (reply_to s x) ≡ true) × ((outcome_of s x).store ≡ s) × (note x.call (reply_to s x) L ≡ L)
  unfolding done note noted
  onto_itself_lem j m n =
      let (d, e, i, passes) = itself_passes j m n in
      let ok = ok_of x.call (reply_to s x) (Call.Rename a b) _ answer
      (subst (λ (y : Checked (ℕ × ℕ × ℕ × Onto)). Says (done y).result 0) (sym passes) (renamed_says 0 _ _)) in (
        ok,
        left ∙ ap (λ (y : Checked (ℕ × ℕ × ℕ × Onto)). (done y).store) passes,
        rw (ok, k.reads) (replace_same (directory_in x a) (name_asked x a) (directory_in x b) (name_asked x b) L j (named a j m) (named b j n)),
      )
