-- How many lines a handle has, and the calls that strike one: REMOVE, RMDIR, and RENAME onto another object's name. Assumes nothing.
use mathlib.Core.Path.{◌≡◌, refl, sym, ap, ◌∙◌, subst}
use mathlib.Core.Logic.{◌≢◌, ⊎_elim}
use mathlib.Core.Bool.{Bool, true, false, cond, ◌||◌}
use mathlib.Core.Option.{some}
use mathlib.Core.List.Memᴰ
use mathlib.Core.List.{List, [], ◌∷◌, Memᴰ}
use Prim.Native.Nat.{ℕ, suc, ◌<◌}
use native.Mathlib.Omega.{arith}
use Rattle.kinds.specs.declared.call.NameIn.{NameIn}
use Rattle.kinds.specs.declared.call.Arguments.TheVariants as Call
use Rattle.spec.specs.Bytes.{same_bytes}
use Rattle.spec.specs.Count.{bit}
use Rattle.spec.specs.Image.{Store}
use Rattle.laws.proofs.Bytes.{same_yes}
use Rattle.laws.proofs.Count.{by_bool}
use Rattle.history.specs.Book.{under, Line, Book, Ledger, is_at, some_at, strike_lines, strike, move_line, move_lines, move, asked, is_ok, noted, note}
use Rattle.history.specs.Run.{Request, reply_to}
use Rattle.history.specs.Statement.{In, HasLine, HasName, lines_of, LosesName, StandApart, Removes, removes_file, removes_directory, directory_in, name_asked}
use Rattle.history.proofs.Lists.{same_true}
use Rattle.history.proofs.Agree.{at_yes, at_no, strike_none}
use Rattle.history.proofs.Inv.{Inv}
use Rattle.history.proofs.Noted.{replace_over}
use Rattle.history.proofs.Lines.{stand_apart, name_handle}
use Rattle.history.proofs.Counts.{line_given_lem}

-- ---- a handle with a line is counted, and one that is counted has a line
lines_some : (h : List ℕ) (b : Book) → 0 < lines_of h b → (kind : ℕ) × HasLine b h kind
unfolding lines_of
lines_some h [] n = absurd (omega arith)
lines_some h (l ∷ ls) n =
    by_bool (same_bytes l.handle h)
    (λ t. (l.kind, (l, Memᴰ.head refl, same_true l.handle h t, refl)))
    (λ t. let (kind, (k, m, e, f)) = lines_some h ls (omega (arith, ap bit t)) in (kind, (k, Memᴰ.tail m, e, f)))

some_lines : (h : List ℕ) (b : Book) (kind : ℕ) → HasLine b h kind → 0 < lines_of h b
unfolding lines_of
some_lines h [] kind (k, m, e, f) = absurd (Memᴰ.not-nil m)
some_lines h (l ∷ ls) kind (k, m, e, f) = ⊎_elim
    (λ (x : k ≡ l). omega (arith, ap bit (same_yes l.handle h (ap (λ (y : Line). y.handle) (sym x) ∙ e))))
    (λ (x : Memᴰ k ls). omega (arith, some_lines h ls kind (k, x, e, f)))
    (Memᴰ.cases_cons m)

-- ---- a line is struck
-- no line stands there
none_met : (b : Book) (d t : List ℕ) → ((k : Line) → In k b → k.standing ≡ under d t → ⊥) → some_at d t b ≡ false
unfolding some_at
none_met [] d t h = refl
none_met (l ∷ ls) d t h =
    ap (λ (x : Bool). x || some_at d t ls) (at_no d t l (h l (Memᴰ.head refl))) ∙ none_met ls d t (λ k m. h k (Memᴰ.tail m))

strike_count : (b : Book) → StandApart b → (d t : List ℕ) (l : Line) → In l b → l.standing ≡ under d t
    → lines_of l.handle b ≡ suc (lines_of l.handle (strike_lines d t b))
unfolding lines_of strike_lines
strike_count [] h d t l m e = absurd (Memᴰ.not-nil m)
strike_count (x ∷ b) h d t l m e = ⊎_elim
    (λ (u : l ≡ x).
    let at = at_yes d t x (ap (λ (y : Line). y.standing) (sym u) ∙ e) in
    let rest = strike_none d t b (none_met b d t (λ k i f. h.0 k i (f ∙ sym e ∙ ap (λ (y : Line). y.standing) u))) in
    let struck : strike_lines d t (x ∷ b) ≡ b = ap (λ (y : Bool). cond y (strike_lines d t b) (x ∷ strike_lines d t b)) at ∙ rest in
    omega (
      arith,
      ap (lines_of l.handle) struck,
      ap bit (same_yes x.handle l.handle (ap (λ (y : Line). y.handle) (sym u))),
    ))
    (λ (u : Memᴰ l b).
    let at = at_no d t x (λ f. h.0 l u (e ∙ sym f)) in
    let kept : strike_lines d t (x ∷ b) ≡ x ∷ strike_lines d t b = ap (λ (y : Bool). cond y (strike_lines d t b) (x ∷ strike_lines d t b)) at in
    omega (arith, ap (lines_of l.handle) kept, strike_count b h.1 d t l u e))
    (Memᴰ.cases_cons m)

-- ---- a line is moved: every handle keeps its lines
move_handle : (d t e u : List ℕ) (l : Line) → (move_line d t e u l).handle ≡ l.handle
unfolding move_line
move_handle d t e u l = by_bool (is_at d t l) (λ x. rw x) (λ x. rw x)

move_count : (h d t e u : List ℕ) (b : Book) → lines_of h (move_lines d t e u b) ≡ lines_of h b
unfolding lines_of move_lines
move_count h d t e u [] = refl
move_count h d t e u (l ∷ ls) = omega (arith, move_count h d t e u ls, ap (λ (x : List ℕ). bit (same_bytes x h)) (move_handle d t e u l))

-- ---- the handle of a name whose line is struck
struck_loses : (L M : Ledger) (d t h : List ℕ) → StandApart L.book → HasName L.book d h t → In h L.given → M.given ≡ L.given
    → lines_of h M.book ≡ lines_of h (strike_lines d t L.book) → LosesName L M h
struck_loses L M d t h apart (l, m, e, f) given same count =
    let struck = strike_count L.book apart d t l m f in
    let less : lines_of h L.book ≡ suc (lines_of h M.book) =
    subst (λ (g : List ℕ). lines_of g L.book ≡ suc (lines_of g (strike_lines d t L.book))) e struck ∙ ap suc (sym count) in
    record {
      one_less = less;
      last_name = λ one. (
        subst (λ (gs : List (List ℕ)). In h gs) (sym same) given,
        (λ kind x. omega (arith, some_lines h M.book kind x)),
      );
      other_name = λ more. lines_some h M.book (omega arith);
    }

module _ (σ p q r : ℕ) (s : Store) (L : Ledger) (I : Inv σ p q r s L) (x : Request) (ok : is_ok (reply_to s x) ≡ true) where
  given_line : (d t h : List ℕ) → HasName L.book d h t → In h L.given
  given_line d t h (l, m, e, f) = line_given_lem σ p q r s L I h l.kind (l, m, e, refl)

  -- a call that strikes the line of a name with handle h
  strikes_line : (a : NameIn) (h : List ℕ) → note x.call (reply_to s x) L ≡ strike (directory_in x a) (name_asked x a) L
      → HasName L.book (directory_in x a) h (name_asked x a) → LosesName L (note x.call (reply_to s x) L) h
  unfolding strike
  strikes_line a h is m =
      let d = directory_in x a in
      let t = name_asked x a in
      struck_loses L (note x.call (reply_to s x) L) d t h (stand_apart σ p q r s L I) m (given_line d t h m)
      (ap (λ (M : Ledger). M.given) is) (ap (λ (M : Ledger). lines_of h M.book) is)

  -- REMOVE and RMDIR
  pub remove_loses : (a : NameIn) (h : List ℕ) → Removes x a → HasName L.book (directory_in x a) h (name_asked x a)
      → LosesName L (note x.call (reply_to s x) L) h
  unfolding note noted
  remove_loses a h (removes_file e) m = strikes_line a h (rw (ok, e)) m
  remove_loses a h (removes_directory e) m = strikes_line a h (rw (ok, e)) m

  -- RENAME onto a name with handle g, of a name with another handle
  pub rename_loses : (a b : NameIn) (h g : List ℕ) → asked x.call ≡ some (Call.Rename a b) → HasName L.book (directory_in x a) h (name_asked x a)
      → HasName L.book (directory_in x b) g (name_asked x b) → h ≢ g → LosesName L (note x.call (reply_to s x) L) g
  unfolding note noted strike move
  rename_loses a b h g e m n two =
      let d = directory_in x a in
      let t = name_asked x a in
      let f = directory_in x b in
      let u = name_asked x b in
      let by_book = replace_over d t f u L h g (name_handle σ p q r s L I d t h m) (name_handle σ p q r s L I f u g n) two in
      let is : note x.call (reply_to s x) L ≡ move d t f u (strike f u L) = rw (ok, e) by_book in
      struck_loses L (note x.call (reply_to s x) L) f u g (stand_apart σ p q r s L I) n (given_line f u g n)
      (ap (λ (M : Ledger). M.given) is) (ap (λ (M : Ledger). lines_of g M.book) is ∙ move_count g d t f u (strike_lines f u L.book))
