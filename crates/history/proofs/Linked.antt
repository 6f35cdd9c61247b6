-- The line that LINK adds. Assumes nothing.
use mathlib.Core.Path.{◌≡◌, refl, sym, ap, ◌∙◌, subst}
use mathlib.Core.Bool.{true, false}
use mathlib.Core.Option.{some}
use mathlib.Core.List.{List, ◌∷◌}
use Prim.Native.Nat.{ℕ}
use Rattle.kinds.specs.declared.call.Part.{Part}
use Rattle.kinds.specs.declared.call.NameIn.{NameIn}
use Rattle.kinds.specs.declared.call.Arguments.TheVariants as Call
use Rattle.spec.specs.Checked.{Checked, refused, passed}
use Rattle.spec.specs.Image.{Store, blocks, object_at}
use Rattle.spec.specs.Procedures.{cut, act}
use Rattle.spec.specs.Procedures.Link.{check_link, link_edit, fail_linking, linked_to, link}
use Rattle.spec.specs.Results.{settle}
use Rattle.laws.proofs.ActGood.{regular_of}
use Rattle.laws.proofs.Count.{true_false}
use Rattle.laws.proofs.GoodRecords.{live_at}
use Rattle.laws.proofs.Passed.{LinkPassed, link_passed}
use Rattle.laws.proofs.RecordRange.{cut_below}
use Rattle.history.specs.Book.{under, Ledger, asked, is_ok, some_at, add_link, noted, note}
use Rattle.history.specs.Run.{Request, Lent, reply_to}
use Rattle.history.specs.Statement.{HasLine, directory_in, name_asked}
use Rattle.history.proofs.Inv.{Inv, good}
use Rattle.history.proofs.Noted.{Answer, linking_says, not_ok}
use Rattle.history.proofs.Statuses.{sure_link}
use Rattle.history.proofs.Making.{reached_own}
use Rattle.history.proofs.Next.{answer_to_lem}
use Rattle.history.proofs.Carried.{asks_of}
use Rattle.history.proofs.Conditions.{reached_line, none_there}

module _ (σ p q r : ℕ) (s : Store) (L : Ledger) (I : Inv σ p q r s L) (x : Request) (l : Lent x) (f : Part) (a : NameIn) where
  h : List ℕ
  h = cut x.call f

  g : List ℕ
  g = directory_in x a

  text : List ℕ
  text = name_asked x a

  -- where its checks pass, the source is a file, and no line has the directory handle and the name
  passed_lines : (o d n : ℕ) → LinkPassed s h g text o d n → HasLine L.book h 1 × (some_at g text L.book ≡ false)
  unfolding h g text
  passed_lines o d n w =
      let live = live_at s (good σ p q r s L I) o w.reached.below w.reached.live in
      let v = w.directory_reached in
      let b = cut_below x.call a.directory l.bytes in (
        subst (HasLine L.book h) (regular_of (blocks s) (object_at s o) live w.file)
            (reached_line σ p q r s L I h (cut_below x.call f l.bytes) o w.reached),
        none_there σ p q r s L I g text d v.below w.directory (reached_own σ p q r s L I g b d v) w.fresh,
      )

  -- a LINK that is answered OK passes them
  ok_lines : asked x.call ≡ some (Call.Link f a) → is_ok (reply_to s x) ≡ true → HasLine L.book h 1 × (some_at g text L.book ≡ false)
  unfolding act link h g text
  ok_lines e t = go (check_link s h g text) refl (answer_to_lem σ p q r s L I x (Call.Link f a) (asks_of σ p q r s L I x (Call.Link f a) t e))
    where
      go : (y : Checked (ℕ × ℕ × ℕ)) → check_link s h g text ≡ y
          → Answer x.call (reply_to s x) (Call.Link f a) (settle s (fail_linking s h g) y
          (λ p. linked_to s p.0 p.1 (link_edit s x.context p.0 p.1 p.2 text))).result
          → HasLine L.book h 1 × (some_at g text L.book ≡ false)
      go (refused n) c A =
          let z = sure_link s h text g n c in
          true_false (sym t ∙ not_ok x.call (reply_to s x) (Call.Link f a) _ A n (linking_says s h g n) z.0 z.1)
      go (passed y) c A = passed_lines y.0 y.1 y.2 (link_passed s h g text y c)

  pub linked_line_lem : asked x.call ≡ some (Call.Link f a) → is_ok (reply_to s x) ≡ true
      → HasLine L.book (cut x.call f) 1 × (some_at (directory_in x a) (name_asked x a) L.book ≡ false)
      × ((note x.call (reply_to s x) L).book
      ≡ record { handle = cut x.call f; kind = 1; standing = under (directory_in x a) (name_asked x a) } ∷ L.book)
      × ((note x.call (reply_to s x) L).given ≡ L.given)
  unfolding note noted add_link h g text
  linked_line_lem e t =
      let (line, none) = ok_lines e t in
      let is : note x.call (reply_to s x) L ≡ add_link h g text L = rw (t, e) in
      (line, none, ap (λ (M : Ledger). M.book) is, ap (λ (M : Ledger). M.given) is)
