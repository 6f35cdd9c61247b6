-- REMOVE and RMDIR: the invariant after the call, with the book's step. Assumes nothing.
use mathlib.Core.Path.{◌≡◌, refl, sym, ap, ◌∙◌, subst}
use mathlib.Core.Logic.{◌≢◌}
use mathlib.Core.Bool.{false}
use mathlib.Core.Option.{some}
use mathlib.Core.List.{List}
use Prim.Native.Nat.{ℕ, ◌<◌}
use native.Mathlib.Omega.{arith}
use lib.ListN.{length}
use Rattle.kinds.specs.declared.object.Context.{Context}
use Rattle.kinds.specs.declared.call.NameIn.{NameIn}
use Rattle.kinds.specs.declared.call.Arguments.{Arguments}
use Rattle.kinds.specs.declared.call.Arguments.TheVariants as Call
use Rattle.spec.specs.Checked.{Checked, refused, passed}
use Rattle.spec.specs.Edits.{mtime_and_ctime, remove_name}
use Rattle.spec.specs.Image.{Store, objects, object_at, name_at}
use Rattle.spec.specs.Procedures.{cut}
use Rattle.spec.specs.Procedures.Attributes.{edited}
use Rattle.spec.specs.Procedures.Names.{touch_directory}
use Rattle.spec.specs.Procedures.Removal.{check_remove, has_entries, check_rmdir, remove_from, remove, rmdir}
use Rattle.spec.specs.Results.{fail_changing, settle}
use Rattle.laws.proofs.Error.{status_of}
use Rattle.laws.proofs.Range.{Below}
use Rattle.laws.proofs.RecordRange.{cut_below}
use Rattle.laws.proofs.SetAttributes.{mtime_and_ctime_fits, mtime_and_ctime_allowed}
use Rattle.laws.proofs.GoodRecords.{GoodClock}
use Rattle.laws.proofs.Passed.{Reached, EntryPassed, remove_passed, rmdir_passed, no_entries}
use Rattle.history.specs.Book.{Ledger, strike_lines, strike, noted, note}
use Rattle.history.proofs.View.{UsedIn, At}
use Rattle.history.proofs.Agree.{handle_in}
use Rattle.history.proofs.Seen.{view, kind_at, dir_at, child_at, text_at, live_in, used_in, text_long}
use Rattle.history.proofs.Inv.{Inv, Owes, keeps_refl, owes_trans, tree, touch_inv, removed_of, remove_inv}
use Rattle.history.proofs.Checks.{found_name_lem}
use Rattle.history.proofs.Statuses.{Sure, sure_remove, sure_rmdir}
use Rattle.history.proofs.Noted.{Answer, changed_says, changing_says, note_failed, note_ok}
use Rattle.history.proofs.Making.{directory_kind, directory_handle}

module _ (σ p q r : ℕ) (s : Store) (L : Ledger) (I : Inv σ p q r s L) (c : Context) (clock : GoodClock c.clock) where
  -- name record n is removed
  module _ (h text : List ℕ) (d n : ℕ) (w : Reached s h d) (dk : (object_at s d).kind ≡ 2) (hb : Below 256 h) (at : At (view s) n d text)
      (empty : (m : ℕ) → UsedIn (view s) m → (view s).dir m ≢ (name_at s n).child) where
    pub removed_owes : Owes σ p q r s (touch_directory (remove_name s c.clock n) c d) (strike h text L)
    unfolding strike
    removed_owes =
        let first = remove_inv σ p q r s L I c.clock clock n at.0 empty in
        let away = removed_of σ p q r s L I c.clock clock n at.0 empty in
        let k = directory_kind σ p q r s L I c clock h text d w dk hb in
        let other : d ≢ (name_at s n).child = λ e. empty n at.0 (at.1 ∙ e) in
        let t = remove_name s c.clock n in
        let M : Ledger = record { book = strike_lines (handle_in σ (view s) ((view s).dir n)) ((view s).text n) L.book; given = L.given } in
        let second = touch_inv σ p q r t M first.inv c.clock d mtime_and_ctime (omega (arith, (away.other d other).0)) clock
        mtime_and_ctime_fits mtime_and_ctime_allowed in
        let e : handle_in σ (view s) ((view s).dir n) ≡ h = ap (handle_in σ (view s)) at.1 ∙ sym (directory_handle σ p q r s L I c clock h text d w dk hb) in
        let book : M ≡ record { book = strike_lines h text L.book; given = L.given } =
        λ i. record { book = strike_lines (e i) (at.2 i) L.book; given = L.given } in
        subst (Owes σ p q r s (touch_directory t c d)) book (owes_trans σ p q r s t (touch_directory t c d) M M first second.owes)

  -- no name is in a file, or in a directory without entries
  pub file_empty : (o : ℕ) → o < objects s → (object_at s o).kind ≢ 2 → (m : ℕ) → UsedIn (view s) m → (view s).dir m ≢ o
  file_empty o l f m u e = let k = (tree σ p q r s L I).flat.dirs m u in f (sym (kind_at s o l) ∙ ap (view s).kind (sym e) ∙ k)

  pub directory_empty : (o : ℕ) → has_entries s o ≡ false → (m : ℕ) → UsedIn (view s) m → (view s).dir m ≢ o
  directory_empty o f m u e =
      let l = used_in s m u in
      no_entries s o m f l (omega (arith, ap length (text_at s m l), text_long s I.valid.good_names m l)) (sym (dir_at s m l) ∙ e)

  pub child_in : (d n : ℕ) (text : List ℕ) → At (view s) n d text → (name_at s n).child < objects s
  child_in d n text at =
      let l = used_in s n at.0 in
      let live = (tree σ p q r s L I).flat.ends n at.0 in
      live_in s (name_at s n).child (omega (arith, ap (view s).kind (child_at s n l)))

  -- ---- REMOVE and RMDIR
  entry_owes : (h text : List ℕ) → Below 256 h → (d n : ℕ) → EntryPassed s h text d n
      → (((o : ℕ) → o < objects s → (name_at s n).child ≡ o → (m : ℕ) → UsedIn (view s) m → (view s).dir m ≢ o))
      → Owes σ p q r s (touch_directory (remove_name s c.clock n) c d) (strike h text L)
  entry_owes h text hb d n w empty =
      let (l, at) = found_name_lem s I.valid.good_names d text n w.found in
      removed_owes h text d n w.reached w.directory hb at (empty (name_at s n).child (child_in d n text at) refl)

  remove_facts : (h text : List ℕ) → Below 256 h → (x : ℕ × ℕ) → check_remove s h text ≡ passed x
      → Owes σ p q r s (touch_directory (remove_name s c.clock x.1) c x.0) (strike h text L)
  remove_facts h text hb x e =
      let w = remove_passed s h text x e in
      entry_owes h text hb x.0 x.1 w.entry (λ o l is. file_empty o l (λ k. w.file (ap (λ (i : ℕ). (object_at s i).kind) is ∙ k)))

  rmdir_facts : (h text : List ℕ) → Below 256 h → (x : ℕ × ℕ) → check_rmdir s h text ≡ passed x
      → Owes σ p q r s (touch_directory (remove_name s c.clock x.1) c x.0) (strike h text L)
  rmdir_facts h text hb x e =
      let w = rmdir_passed s h text x e in
      entry_owes h text hb x.0 x.1 w.entry (λ o l is. directory_empty o (ap (has_entries s) (sym is) ∙ w.empty))

  -- ---- the calls
  module _ (call reply : List ℕ) (bytes : Below 256 call) where
    -- a removal whose checks are these
    from : (a : Arguments) (h text : List ℕ) (checks x : Checked (ℕ × ℕ)) → checks ≡ x → Sure checks
        → ((y : ℕ × ℕ) → checks ≡ passed y → Owes σ p q r s (touch_directory (remove_name s c.clock y.1) c y.0) (strike h text L))
        → ((reply : List ℕ) → noted call reply L (some a) ≡ strike h text L)
        → Answer call reply a (settle s (fail_changing s h) x (λ p. edited s p.0 (touch_directory (remove_name s c.clock p.1) c p.0))).result
        → Owes σ p q r s (settle s (fail_changing s h) x (λ p. edited s p.0 (touch_directory (remove_name s c.clock p.1) c p.0))).store (note call reply L)
    unfolding status_of
    from a h text checks (refused n) e f g k A =
        let b = f n e in
        subst (Owes σ p q r s s) (sym (note_failed call reply a _ A n (changing_says s h n) b.0 b.1 L)) (keeps_refl σ p q r s L I).owes
    from a h text checks (passed y) e f g k A =
        subst (Owes σ p q r s (touch_directory (remove_name s c.clock y.1) c y.0)) (sym (note_ok call reply a _ A (changed_says 0 _) L ∙ k reply)) (g y e)

    pub remove_owes : (place : NameIn) → Answer call reply (Call.Remove place) (remove s c (cut call place.directory) (cut call place.name)).result
        → Owes σ p q r s (remove s c (cut call place.directory) (cut call place.name)).store (note call reply L)
    unfolding remove remove_from noted
    remove_owes place A =
        let h = cut call place.directory in
        let text = cut call place.name in
        from (Call.Remove place) h text (check_remove s h text) (check_remove s h text) refl (sure_remove s h text)
        (remove_facts h text (cut_below call place.directory bytes)) (λ _. refl) A

    pub rmdir_owes : (place : NameIn) → Answer call reply (Call.Rmdir place) (rmdir s c (cut call place.directory) (cut call place.name)).result
        → Owes σ p q r s (rmdir s c (cut call place.directory) (cut call place.name)).store (note call reply L)
    unfolding rmdir remove_from noted
    rmdir_owes place A =
        let h = cut call place.directory in
        let text = cut call place.name in
        from (Call.Rmdir place) h text (check_rmdir s h text) (check_rmdir s h text) refl (sure_rmdir s h text)
        (rmdir_facts h text (cut_below call place.directory bytes)) (λ _. refl) A
