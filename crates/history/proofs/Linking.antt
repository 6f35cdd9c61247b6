-- LINK: the invariant after the call, with the book's step. Assumes nothing.
use mathlib.Core.Path.{◌≡◌, refl, sym, ap, ◌∙◌, subst}
use mathlib.Core.List.{List, ◌∷◌}
use Prim.Native.Nat.{ℕ, ◌<◌}
use native.Mathlib.Omega.{arith}
use Rattle.kinds.specs.Numbers.{most_links}
use Rattle.kinds.specs.declared.object.Context.{Context}
use Rattle.kinds.specs.declared.call.Part.{Part}
use Rattle.kinds.specs.declared.call.NameIn.{NameIn}
use Rattle.kinds.specs.declared.call.Arguments.TheVariants as Call
use Rattle.spec.specs.Checked.{Checked, refused, passed}
use Rattle.spec.specs.Edits.{set_attributes, only_ctime, mtime_and_ctime, add_name}
use Rattle.spec.specs.Image.{Store, names, blocks, object_at}
use Rattle.spec.specs.Procedures.{cut}
use Rattle.spec.specs.Procedures.Link.{check_link, link_edit, fail_linking, linked_to, link}
use Rattle.spec.specs.Procedures.Names.{touch_directory}
use Rattle.spec.specs.Results.{settle}
use Rattle.laws.proofs.ActGood.{regular_of}
use Rattle.laws.proofs.Error.{status_of}
use Rattle.laws.proofs.GoodRecords.{GoodClock, clock_fits, live_at}
use Rattle.laws.proofs.Passed.{LinkPassed, link_passed}
use Rattle.laws.proofs.Range.{Below}
use Rattle.laws.proofs.RecordRange.{cut_below}
use Rattle.laws.proofs.SetAttributes.{only_ctime_fits, only_ctime_allowed, mtime_and_ctime_fits, mtime_and_ctime_allowed, set_attributes_structure}
use Rattle.history.specs.Book.{under, Ledger, handle_bytes, add_link, noted, note}
use Rattle.history.proofs.View.{namings_in, entries_at, namings_kept, entries_kept}
use Rattle.history.proofs.Agree.{handle_in}
use Rattle.history.proofs.Seen.{view, kind_at, namings_same}
use Rattle.history.proofs.Inv.{Inv, Owes, keeps_refl, keeps_trans, good, same_names, touch_inv, link_keeps}
use Rattle.history.proofs.Checks.{no_name}
use Rattle.history.proofs.Statuses.{sure_link}
use Rattle.history.proofs.Noted.{Answer, linked_says, linking_says, note_failed, note_ok}
use Rattle.history.proofs.Making.{reached_own}

module _ (σ p q r : ℕ) (s : Store) (L : Ledger) (I : Inv σ p q r s L) (c : Context) (clock : GoodClock c.clock) where
  link_facts : (h g text : List ℕ) → Below 256 h → Below 256 g → Below 256 text → (o d n : ℕ) → LinkPassed s h g text o d n
      → Owes σ p q r s (link_edit s c o d n text) (add_link h g text L)
  unfolding link_edit add_link
  link_facts h g text hb gb tb o d n w =
      let R = good σ p q r s L I in
      let k = w.reached.below in
      let file : (view s).kind o ≡ 1 = kind_at s o k ∙ regular_of (blocks s) (object_at s o) (live_at s R o k w.reached.live) w.file in
      let kd : (view s).kind d ≡ 2 = kind_at s d w.directory_reached.below ∙ w.directory in
      let t₁ = set_attributes s c.clock o only_ctime in
      let first = touch_inv σ p q r s L I c.clock o only_ctime (omega arith) clock only_ctime_fits only_ctime_allowed in
      let J = first.owes.inv in
      let e = (set_attributes_structure s c.clock o only_ctime R.sound k (clock_fits c.clock clock) only_ctime_fits).tree in
      let same = same_names s t₁ e in
      let wide = e.shape.names in
      let few : namings_in (names t₁) (view t₁) o < most_links = omega (
        arith,
        w.few,
        namings_same s I.valid.good_names o,
        namings_kept (names s) (view s) (view t₁) same o,
        ap (λ (i : ℕ). namings_in i (view t₁) o) wide,
      ) in
      let gap : entries_at (names t₁) (view t₁) d text ≡ 0 =
      ap (λ (i : ℕ). entries_at i (view t₁) d text) wide ∙ entries_kept (names s) (view s) (view t₁) same d text
      ∙ no_name s I.valid.good_names d text w.fresh in
      let second = link_keeps σ p q r t₁ L J o n d text (first.kinds o (omega arith) ∙ file) few (omega (arith, w.name_below))
      ((e.name n w.name_below).long ∙ w.name_free) w.good tb (first.kinds d (omega arith) ∙ kd) gap in
      let t₂ = add_name t₁ n o d text in
      let M : Ledger = record {
        book = record { handle = handle_in σ (view t₁) o; kind = 1; standing = under (handle_in σ (view t₁) d) text } ∷ L.book;
        given = L.given;
      } in
      let two = keeps_trans σ p q r s t₁ t₂ L M first second in
      let third = touch_inv σ p q r t₂ M two.owes.inv c.clock d mtime_and_ctime (omega (arith, two.kinds d (omega arith))) clock
      mtime_and_ctime_fits mtime_and_ctime_allowed in
      let three = keeps_trans σ p q r s t₂ (touch_directory t₂ c d) M M two third in
      let source : handle_in σ (view t₁) o ≡ h = ap (handle_bytes σ o) (first.gens o) ∙ sym (reached_own σ p q r s L I h hb o w.reached) in
      let into : handle_in σ (view t₁) d ≡ g =
      ap (handle_bytes σ d) (first.gens d) ∙ sym (reached_own σ p q r s L I g gb d w.directory_reached) in
      let book : M ≡ record { book = record { handle = h; kind = 1; standing = under g text } ∷ L.book; given = L.given } =
      λ i. record { book = record { handle = source i; kind = 1; standing = under (into i) text } ∷ L.book; given = L.given } in
      subst (Owes σ p q r s (touch_directory t₂ c d)) book three.owes

  module _ (call reply : List ℕ) (bytes : Below 256 call) where
    pub link_owes : (f : Part) (a : NameIn)
        → Answer call reply (Call.Link f a) (link s c (cut call f) (cut call a.directory) (cut call a.name)).result
        → Owes σ p q r s (link s c (cut call f) (cut call a.directory) (cut call a.name)).store (note call reply L)
    unfolding link noted status_of
    link_owes f a A = go (check_link s h g text) refl A
      where
        h : List ℕ
        h = cut call f

        g : List ℕ
        g = cut call a.directory

        text : List ℕ
        text = cut call a.name

        go : (x : Checked (ℕ × ℕ × ℕ)) → check_link s h g text ≡ x
            → Answer call reply (Call.Link f a) (settle s (fail_linking s h g) x
            (λ p. linked_to s p.0 p.1 (link_edit s c p.0 p.1 p.2 text))).result
            → Owes σ p q r s (settle s (fail_linking s h g) x (λ p. linked_to s p.0 p.1 (link_edit s c p.0 p.1 p.2 text))).store
            (note call reply L)
        go (refused n) e A =
            let z = sure_link s h text g n e in
            subst (Owes σ p q r s s) (sym (note_failed call reply (Call.Link f a) _ A n (linking_says s h g n) z.0 z.1 L))
            (keeps_refl σ p q r s L I).owes
        go (passed x) e A =
            subst (Owes σ p q r s (link_edit s c x.0 x.1 x.2 text))
            (sym (note_ok call reply (Call.Link f a) _ A (linked_says 0 _ _) L))
            (link_facts h g text (cut_below call f bytes) (cut_below call a.directory bytes) (cut_below call a.name bytes)
            x.0 x.1 x.2 (link_passed s h g text x e))
