-- RENAME: the invariant after the call, with the book's step. Assumes nothing.
use mathlib.Core.Path.{◌≡◌, refl, sym, ap, ◌∙◌, subst}
use mathlib.Core.Logic.{◌≢◌, ⊎_elim}
use mathlib.Core.Bool.{Bool, false, ◌&&◌}
use mathlib.Core.Option.{some, none}
use mathlib.Core.List.{List, []}
use Prim.Native.Nat.{ℕ, ◌<◌}
use native.Mathlib.Omega.{arith}
use lib.Dec.{eqb}
use lib.ListN.{length}
use borrow.Author.Tests.{eqb-false}
use Rattle.kinds.specs.declared.object.Context.{Context}
use Rattle.kinds.specs.declared.call.NameIn.{NameIn}
use Rattle.kinds.specs.declared.call.Arguments.TheVariants as Call
use Rattle.spec.specs.Checked.{Checked, refused, passed}
use Rattle.spec.specs.Count.{some_below, iterate}
use Rattle.spec.specs.Edits.{set_attributes, only_ctime, mtime_and_ctime, remove_name, move_name}
use Rattle.spec.specs.Image.{Store, objects, names, name_at}
use Rattle.spec.specs.Procedures.{cut}
use Rattle.spec.specs.Procedures.Names.{touch_directory}
use Rattle.spec.specs.Procedures.Removal.{is_within, Onto, new_name, same_object, replacing, check_rename, move_edit, rename_edit, fail_renaming, renamed_to, rename}
use Rattle.spec.specs.Results.{settle}
use Rattle.spec.specs.Room.{is_directory, find_name, above}
use Rattle.laws.proofs.Count.{by_bool, true_false, some_none}
use Rattle.laws.proofs.Error.{status_of}
use Rattle.laws.proofs.GoodRecords.{GoodClock}
use Rattle.laws.proofs.Passed.{replaceable, ReplacePassed, RenamePassed, rename_passed}
use Rattle.laws.proofs.Range.{Below}
use Rattle.laws.proofs.RecordRange.{cut_below}
use Rattle.laws.proofs.SetAttributes.{only_ctime_fits, only_ctime_allowed, mtime_and_ctime_fits, mtime_and_ctime_allowed}
use Rattle.laws.proofs.Valid.{GoodName, true_directory}
use Rattle.history.specs.Book.{Ledger, handle_bytes, some_at, strike_lines, strike, move_lines, move, handle_under, replace, noted, note}
use Rattle.history.proofs.Sum.{ind_yes, ind_no}
use Rattle.history.proofs.View.{LiveIn, UsedIn, At, at?, entries_at, Path, Avoids, SameRecord, entries_set}
use Rattle.history.proofs.Tree.{single, path_short, live_bound}
use Rattle.history.proofs.Change.{path_kept}
use Rattle.history.proofs.Walk.{parent_in, outside, outside_file}
use Rattle.history.proofs.Handles.{same_object_lem}
use Rattle.history.proofs.Agree.{handle_in}
use Rattle.history.proofs.Seen.{view, kind_at, child_at, above_same, used_in}
use Rattle.history.proofs.Inv.{Inv, Owes, keeps_refl, keeps_trans, owes_trans, tree, touch_inv, removed_of, remove_inv, move_keeps}
use Rattle.history.proofs.Checks.{found_name_lem, no_name}
use Rattle.history.proofs.Statuses.{sure_rename}
use Rattle.history.proofs.Noted.{Answer, renamed_says, renaming_says, note_failed, note_ok, replace_new, replace_same, replace_over}
use Rattle.history.proofs.Making.{line_none, directory_kind, directory_handle}
use Rattle.history.proofs.Lines.{found_handle_lem}
use Rattle.history.proofs.Removing.{file_empty, directory_empty, child_in}

-- name record n is moved from directory d to a name that directory e does not have
module _ (σ p q r : ℕ) (s : Store) (L : Ledger) (I : Inv σ p q r s L) (c : Context) (clock : GoodClock c.clock) where
  moved_owes : (h text g title : List ℕ) (d e n : ℕ) → At (view s) n d text → (view s).kind d ≡ 2 → (view s).kind e ≡ 2 → handle_in σ (view s) d ≡ h
      → handle_in σ (view s) e ≡ g → GoodName title → Below 256 title → entries_at (names s) (view s) e title ≡ 0
      → ((qs : List ℕ) → Path (view s) e qs → Avoids (view s) (name_at s n).child e qs)
      → Owes σ p q r s (move_edit s c d e n title) (move h text g title L)
  unfolding move_edit move
  moved_owes h text g title d e n at kd ke hd he good below gap clear =
      let o = (name_at s n).child in
      let first = move_keeps σ p q r s L I n e title at.0 good below ke gap clear in
      let M : Ledger = record {
        book = move_lines (handle_in σ (view s) ((view s).dir n)) ((view s).text n) (handle_in σ (view s) e) title L.book;
        given = L.given;
      } in
      let t₁ = move_name s n e title in
      let live : LiveIn (view s) o = subst (LiveIn (view s)) (child_at s n (used_in s n at.0)) ((tree σ p q r s L I).flat.ends n at.0) in
      let second = touch_inv σ p q r t₁ M first.owes.inv c.clock o only_ctime (omega (arith, first.kinds o live)) clock only_ctime_fits
      only_ctime_allowed in
      let t₂ = set_attributes t₁ c.clock o only_ctime in
      let two = keeps_trans σ p q r s t₁ t₂ M M first second in
      let third = touch_inv σ p q r t₂ M two.owes.inv c.clock d mtime_and_ctime (omega (arith, two.kinds d (omega arith))) clock
      mtime_and_ctime_fits mtime_and_ctime_allowed in
      let t₃ = touch_directory t₂ c d in
      let three = keeps_trans σ p q r s t₂ t₃ M M two third in
      let fourth = touch_inv σ p q r t₃ M three.owes.inv c.clock e mtime_and_ctime (omega (arith, three.kinds e (omega arith))) clock
      mtime_and_ctime_fits mtime_and_ctime_allowed in
      let four = keeps_trans σ p q r s t₃ (touch_directory t₃ c e) M M three fourth in
      let from : handle_in σ (view s) ((view s).dir n) ≡ h = ap (handle_in σ (view s)) at.1 ∙ hd in
      let book : M ≡ record { book = move_lines h text g title L.book; given = L.given } =
      λ j. record { book = move_lines (from j) (at.2 j) (he j) title L.book; given = L.given } in
      subst (Owes σ p q r s (touch_directory t₃ c e)) book four.owes

module _ (σ p q r : ℕ) (s : Store) (L : Ledger) (I : Inv σ p q r s L) (c : Context) (clock : GoodClock c.clock) where
  -- the way up from directory e does not meet o
  clear : (o e : ℕ) → o < objects s → (view s).kind e ≡ 2 → is_within s o e ≡ false → (qs : List ℕ) → Path (view s) e qs → Avoids (view s) o e qs
  unfolding is_within
  clear o e l k f qs a =
      let T = tree σ p q r s L I in
      by_bool (is_directory s o)
      (λ t. let none : some_below (objects s) (λ j. eqb (above s j e) o) ≡ false =
      ap (λ (b : Bool). b && some_below (objects s) (λ j. eqb (above s j e) o)) (sym t) ∙ f in
      outside p q (view s) T.flat p o e qs (single p q (view s) T.flat e k) (omega (arith, path_short p q (view s) T qs e a, live_bound p (view s))) a
      (λ j m z. eqb-false (above s j e) o (some_none (λ j. eqb (above s j e) o) (objects s) j none (omega (arith, I.objs)))
      (sym (above_same s I.valid.good_names j e) ∙ ap (λ (y : ℕ). iterate j (parent_in y (view s)) e) I.nams ∙ z)))
      (λ t. outside_file p q (view s) T.flat o e qs (λ z. true_false (sym (true_directory s o (sym (kind_at s o l) ∙ z)) ∙ t)) k a)

  module _ (h text g title : List ℕ) (hb : Below 256 h) (gb : Below 256 g) (tb : Below 256 title) (d e n : ℕ) (t : Onto)
      (w : RenamePassed s h text g title d e n t) where
    at : At (view s) n d text
    at = (found_name_lem s I.valid.good_names d text n w.found).1

    from_directory : (view s).kind d ≡ 2
    from_directory = directory_kind σ p q r s L I c clock h text d w.reached w.directory hb

    to_directory : (view s).kind e ≡ 2
    to_directory = directory_kind σ p q r s L I c clock g title e w.target_reached w.target_directory gb

    from_handle : handle_in σ (view s) d ≡ h
    from_handle = sym (directory_handle σ p q r s L I c clock h text d w.reached w.directory hb)

    to_handle : handle_in σ (view s) e ≡ g
    to_handle = sym (directory_handle σ p q r s L I c clock g title e w.target_reached w.target_directory gb)

    up : (qs : List ℕ) → Path (view s) e qs → Avoids (view s) (name_at s n).child e qs
    up = clear (name_at s n).child e (child_in σ p q r s L I c clock d n text at) to_directory w.outside

    -- the handles of the two lines
    first_line : handle_under h text L.book ≡ some (handle_in σ (view s) (name_at s n).child)
    first_line = found_handle_lem σ p q r s L I h text d w.reached.below (sym from_handle) n w.found

    second_line : (m : ℕ) → find_name s e title ≡ some m → handle_under g title L.book ≡ some (handle_in σ (view s) (name_at s m).child)
    second_line m f = found_handle_lem σ p q r s L I g title e w.target_reached.below (sym to_handle) m f

    -- the new name is not there, so it has no line
    no_line : find_name s e title ≡ none → some_at g title L.book ≡ false
    no_line f = line_none σ p q r s L I g title e to_directory (sym to_handle) (no_name s I.valid.good_names e title f)

    new_owes : find_name s e title ≡ none → Owes σ p q r s (move_edit s c d e n title) (replace h text g title L)
    new_owes f =
        subst (Owes σ p q r s (move_edit s c d e n title)) (sym (replace_new h text g title L (no_line f)))
        (moved_owes σ p q r s L I c clock h text g title d e n at from_directory to_directory from_handle to_handle w.target_good tb
        (no_name s I.valid.good_names e title f) up)

    -- the new name is one of the same object's
    same_owes : (m : ℕ) → find_name s e title ≡ some m → (name_at s m).child ≡ (name_at s n).child → Owes σ p q r s s (replace h text g title L)
    same_owes m f is =
        subst (Owes σ p q r s s)
        (sym (replace_same h text g title L (handle_in σ (view s) (name_at s n).child) first_line
        (second_line m f ∙ ap (λ (x : ℕ). some (handle_in σ (view s) x)) is)))
        (keeps_refl σ p q r s L I).owes

    -- two objects have two handles
    two_handles : (m : ℕ) → ReplacePassed s (name_at s n).child e title m
        → handle_in σ (view s) (name_at s n).child ≢ handle_in σ (view s) (name_at s m).child
    two_handles m x z =
        let a = (found_name_lem s I.valid.good_names e title m x.found).1 in
        let small : (i : ℕ) → i < objects s → i < 4294967296 = λ i l. omega (arith, (tree σ p q r s L I).flat.few, I.objs) in
        x.other (sym (same_object_lem σ (name_at s n).child ((view s).gen (name_at s n).child) (name_at s m).child ((view s).gen (name_at s m).child)
        (small (name_at s n).child (child_in σ p q r s L I c clock d n text at)) (small (name_at s m).child (child_in σ p q r s L I c clock e m title a)) z))

    -- the name record m is removed, and the record n moved to its name
    over_owes : (m : ℕ) → ReplacePassed s (name_at s n).child e title m
        → Owes σ p q r s (move_edit (remove_name s c.clock m) c d e n title) (replace h text g title L)
    unfolding strike
    over_owes m x =
        let T = tree σ p q r s L I in
        let a = (found_name_lem s I.valid.good_names e title m x.found).1 in
        let target = (name_at s m).child in
        let target-in = child_in σ p q r s L I c clock e m title a in
        let empty : (i : ℕ) → UsedIn (view s) i → (view s).dir i ≢ target =
        ⊎_elim
        (λ f. file_empty σ p q r s L I c clock target target-in (λ k. true_false (sym (true_directory s target k) ∙ f)))
        (λ f. directory_empty σ p q r s L I c clock target f)
        (replaceable s (name_at s n).child target x.gives_way) in
        let u = remove_name s c.clock m in
        let first = remove_inv σ p q r s L I c.clock clock m a.0 empty in
        let away = removed_of σ p q r s L I c.clock clock m a.0 empty in
        let M : Ledger = record { book = strike_lines (handle_in σ (view s) ((view s).dir m)) ((view s).text m) L.book; given = L.given } in
        let J : Inv σ p q r u M = first.inv in
        let same = away.nam.other n (λ z. x.other (ap (λ (i : ℕ). (name_at s i).child) (sym z))) in
        let still : At (view u) n d text = (omega (arith, at.0, ap length same.text), same.dir ∙ at.1, same.text ∙ at.2) in
        let od = away.other d (λ z. empty n at.0 (at.1 ∙ z)) in
        let oe = away.other e (λ z. empty m a.0 (a.1 ∙ z)) in
        let none_left : entries_at q (view u) e title ≡ 0 = omega (
          arith,
          entries_set q (view s) (view u) m 0 0 [] away.nam (T.flat.rows m a.0) e title,
          T.flat.apart e title,
          ind_yes (at? (view s) m e title) a,
          ind_no (at? (view u) m e title) (λ h. omega (arith, h.0, ap length away.nam.text)),
        ) in
        let gap : entries_at (names u) (view u) e title ≡ 0 = ap (λ (i : ℕ). entries_at i (view u) e title) J.nams ∙ none_left in
        let back : (i : ℕ) → UsedIn (view u) i → SameRecord (view u) (view s) i =
        λ i z. let b = away.nam.other i (λ k. omega (arith, ap (λ (j : ℕ). length ((view u).text j)) k, ap length away.nam.text)) in
        record { dir = sym b.dir; child = sym b.child; text = sym b.text } in
        let child : (name_at u n).child ≡ (name_at s n).child = sym (child_at u n (used_in u n still.0)) ∙ same.child ∙ child_at s n (used_in s n at.0) in
        let up_still : (qs : List ℕ) → Path (view u) e qs → Avoids (view u) (name_at u n).child e qs =
        λ qs k. let (b, f) = path_kept (view u) (view s) (name_at s n).child back qs e k in
        subst (λ (i : ℕ). Avoids (view u) i e qs) (sym child) (f (up qs b)) in
        let second = moved_owes σ p q r u M J c clock h text g title d e n still (od.0 ∙ from_directory) (oe.0 ∙ to_directory)
        (ap (handle_bytes σ d) od.1 ∙ from_handle) (ap (handle_bytes σ e) oe.1 ∙ to_handle) w.target_good tb gap up_still in
        let struck : M ≡ strike g title L =
        λ i. record { book = strike_lines ((ap (handle_in σ (view s)) a.1 ∙ to_handle) i) (a.2 i) L.book; given = L.given } in
        subst (Owes σ p q r s (move_edit u c d e n title))
        (ap (move h text g title) struck ∙ sym (replace_over h text g title L _ _ first_line (second_line m x.found) (two_handles m x)))
        (owes_trans σ p q r s u (move_edit u c d e n title) M (move h text g title M) first second)

  rename_facts : (h text g title : List ℕ) → Below 256 h → Below 256 g → Below 256 title → (d e n : ℕ) (t : Onto) → RenamePassed s h text g title d e n t
      → Owes σ p q r s (rename_edit s c d e n t title) (replace h text g title L)
  rename_facts h text g title hb gb tb d e n new_name w = new_owes h text g title hb gb tb d e n new_name w w.target
  rename_facts h text g title hb gb tb d e n same_object w =
      let (m, f, is) = w.target in
      same_owes h text g title hb gb tb d e n same_object w m f is
  rename_facts h text g title hb gb tb d e n (replacing m) w = over_owes h text g title hb gb tb d e n (replacing m) w m w.target

  module _ (call reply : List ℕ) (bytes : Below 256 call) where
    pub rename_owes : (a b : NameIn)
        → Answer call reply (Call.Rename a b) (rename s c (cut call a.directory) (cut call a.name) (cut call b.directory) (cut call b.name)).result
        → Owes σ p q r s (rename s c (cut call a.directory) (cut call a.name) (cut call b.directory) (cut call b.name)).store (note call reply L)
    unfolding rename noted status_of
    rename_owes a b A = go (check_rename s h text g title) refl A
      where
        h : List ℕ
        h = cut call a.directory

        text : List ℕ
        text = cut call a.name

        g : List ℕ
        g = cut call b.directory

        title : List ℕ
        title = cut call b.name

        go : (x : Checked (ℕ × ℕ × ℕ × Onto)) → check_rename s h text g title ≡ x
            → Answer call reply (Call.Rename a b) (settle s (fail_renaming s h g) x
            (λ p. renamed_to s p.0 p.1 (rename_edit s c p.0 p.1 p.2 p.3 title))).result
            → Owes σ p q r s (settle s (fail_renaming s h g) x (λ p. renamed_to s p.0 p.1 (rename_edit s c p.0 p.1 p.2 p.3 title))).store
            (note call reply L)
        go (refused n) e A =
            let z = sure_rename s h text g title n e in
            subst (Owes σ p q r s s) (sym (note_failed call reply (Call.Rename a b) _ A n (renaming_says s h g n) z.0 z.1 L))
            (keeps_refl σ p q r s L I).owes
        go (passed x) e A =
            subst (Owes σ p q r s (rename_edit s c x.0 x.1 x.2 x.3 title))
            (sym (note_ok call reply (Call.Rename a b) _ A (renamed_says 0 _ _) L))
            (rename_facts h text g title (cut_below call a.directory bytes) (cut_below call b.directory bytes) (cut_below call b.name bytes)
            x.0 x.1 x.2 x.3 (rename_passed s h text g title x e))
