-- The book is the store's lines, in some order, and each change of the store keeps it so. Assumes nothing.
use mathlib.Core.Path.{◌≡◌, refl, sym, ap, ap₂, ◌∙◌}
use mathlib.Core.Logic.{◌≢◌, by_cases}
use mathlib.Core.Bool.{Bool, true, false, ◌&&◌, ◌||◌, cond}
use mathlib.Core.Option.{some, none}
use mathlib.Core.List.{List, [], ◌∷◌, ◌++◌, map}
use Prim.Native.Nat.{ℕ, ◌<◌, ◌+◌}
use native.Mathlib.Decide.{ℕ_discrete, dec_lt}
use native.Mathlib.Omega.{arith}
use lib.ListN.{length}
use borrow.Author.Tests.{eq-eqb, ne_eqb}
use Rattle.spec.specs.Bytes.{same_bytes}
use Rattle.spec.specs.Count.{bit, times}
use Rattle.laws.proofs.Bytes.{same_yes}
use Rattle.laws.proofs.Count.{and_both, true_false, by_bool}
use Rattle.laws.proofs.Tests.{or_none}
use Rattle.history.specs.Book.{Standing, as_root, under, Line, Book, handle_bytes, stands, is_at, some_at, strike_lines, move_line, move_lines}
use Rattle.history.specs.Book.{handle_under}
use Rattle.history.proofs.Sum.{or_right, ind, ind_same, ind_yes, ind_no, ind_true}
use Rattle.history.proofs.Lists.{same_true, All, without, without_same, without_other, all_times, times_without, times_without_other}
use Rattle.history.proofs.View.{View, LiveIn, UsedIn, At, entries_at, SameRecord, no_entry}
use Rattle.history.proofs.Tree.{Tree, one_entry}
use Rattle.history.proofs.Change.{Named, Removed, Moved, named_gens, named_kinds, named_records, child_stays}
use Rattle.history.proofs.Handles.{same_object_lem}

-- the handle of object i
abbrev pub handle_in : ℕ → View → ℕ → List ℕ
handle_in σ v i = handle_bytes σ i (v.gen i)

-- the line of name record q
abbrev pub line_of : ℕ → View → ℕ → Line
line_of σ v q = record { handle = handle_in σ v (v.child q); kind = v.kind (v.child q); standing = under (handle_in σ v (v.dir q)) (v.text q) }

abbrev pub root_line : ℕ → View → Line
root_line σ v = record { handle = handle_in σ v 0; kind = v.kind 0; standing = as_root }

pub used? : (v : View) (q : ℕ) → Dec (UsedIn v q)
used? v q = dec_lt 0 (length (v.text q))

pub record Agrees (σ : ℕ) (v : View) (b : Book) : Type 0 where
  pub order : List ℕ
  pub each : (q : ℕ) → times q order ≡ ind (used? v q)
  pub lines : b ≡ map (line_of σ v) order ++ (root_line σ v ∷ [])

-- ---- the tests of the book
pub at_yes : (d t : List ℕ) (l : Line) → l.standing ≡ under d t → is_at d t l ≡ true
at_yes d t l e = ap (stands d t) e ∙ ap₂ (λ (x y : Bool). x && y) (same_yes d d refl) (same_yes t t refl)

stands_true : (d t : List ℕ) (p : Standing) → stands d t p ≡ true → p ≡ under d t
stands_true d t as_root e = true_false (sym e)
stands_true d t (under g u) e =
    let h = and_both (same_bytes g d) (same_bytes u t) e in
    let x = same_true g d h.0 in
    let y = same_true u t h.1 in
    cc

pub at_true : (d t : List ℕ) (l : Line) → is_at d t l ≡ true → l.standing ≡ under d t
at_true d t l e = stands_true d t l.standing e

pub at_no : (d t : List ℕ) (l : Line) → (l.standing ≡ under d t → ⊥) → is_at d t l ≡ false
at_no d t l n = by_bool (is_at d t l) (λ e. absurd (n (at_true d t l e))) (λ e. e)

map_all : {A B : Type 0} (f g : A → B) (xs : List A) → All (λ x. f x ≡ g x) xs → map f xs ≡ map g xs
map_all f g [] h = refl
map_all f g (x ∷ xs) h = let r = map_all f g xs h.1 in let e = h.0 in cc

all_map : {A : Type 0} {P R : A → Type 0} → ((x : A) → P x → R x) → (xs : List A) → All P xs → All R xs
all_map f [] h = tt
all_map f (x ∷ xs) h = (f x h.0, all_map f xs h.1)

pub all_used : (v : View) (ks : List ℕ) → ((q : ℕ) → times q ks ≡ ind (used? v q)) → All (UsedIn v) ks
all_used v ks h = all_times ks (λ q l. ind_true (used? v q) (omega (arith, h q)))

same_line : (σ : ℕ) (v w : View) (p : ℕ) → SameRecord v w p → (w.kind (v.child p) ≡ v.kind (v.child p)) × (w.gen (v.child p) ≡ v.gen (v.child p))
    → w.gen (v.dir p) ≡ v.gen (v.dir p) → line_of σ v p ≡ line_of σ w p
same_line σ v w p s c d = cc

same_root : (σ : ℕ) (v w : View) → (w.kind 0 ≡ v.kind 0) × (w.gen 0 ≡ v.gen 0) → root_line σ v ≡ root_line σ w
same_root σ v w c = cc

-- the order of a view that says the same of every record
pub agrees_same : (σ : ℕ) (v w : View) (b : Book) → ((i : ℕ) → (w.kind i ≡ v.kind i) × (w.gen i ≡ v.gen i)) → ((p : ℕ) → SameRecord v w p)
    → Agrees σ v b → Agrees σ w b
agrees_same σ v w b o n A =
    record {
      order = A.order;
      each = λ q. A.each q ∙ ind_same (used? v q) (used? w q) (λ u. omega (arith, ap length (n q).text)) (λ u. omega (arith, ap length (n q).text));
      lines =
          let m = map_all (line_of σ v) (line_of σ w) A.order
          (all_map (λ p (u : UsedIn v p). same_line σ v w p (n p) (o (v.child p)) (o (v.dir p)).1) A.order (all_used v A.order A.each)) in
          let r = same_root σ v w (o 0) in
          let e = A.lines in
          cc;
    }

-- an object gets a name: its line is added
module _ (P Q σ : ℕ) (v w : View) (o q k d : ℕ) (t : List ℕ) (T : Tree P Q v) (B : Named P Q v w o q k d t) (b : Book) (A : Agrees σ v b) where
  kept : (i : ℕ) → LiveIn v i → (w.kind i ≡ v.kind i) × (w.gen i ≡ v.gen i)
  kept i l = (named_kinds P Q v w o q k d t B i l, named_gens P Q v w o q k d t B i)

  added_line_lem : (p : ℕ) → UsedIn v p → line_of σ v p ≡ line_of σ w p
  added_line_lem p u = same_line σ v w p (named_records P Q v w o q k d t B p u)
      (kept (v.child p) (T.flat.ends p u)) (kept (v.dir p) (omega (arith, T.flat.dirs p u))).1

  pub named_agrees : Agrees σ w (record { handle = handle_in σ v o; kind = k; standing = under (handle_in σ v d) t } ∷ b)
  unfolding times
  named_agrees = record {
    order = q ∷ A.order;
    each = λ p. by_cases (ℕ_discrete q p)
        (λ e. omega (
          arith,
          ap bit (eq-eqb q p e),
          A.each p,
          ind_no (used? v p) (λ u. omega (arith, B.was_blank, ap (λ (x : ℕ). length (v.text x)) e)),
          ind_yes (used? w p) (omega (arith, ap (λ (x : ℕ). length (w.text x)) e, ap length B.nam.text, B.some)),
        ))
        (λ n. let s = B.nam.other p (λ e. n (sym e)) in
        omega (
          arith,
          ap bit (ne_eqb q p n),
          A.each p,
          ind_same (used? v p) (used? w p) (λ u. omega (arith, ap length s.text))
              (λ u. omega (arith, ap length s.text)),
        ));
    lines =
        let m = map_all (line_of σ v) (line_of σ w) A.order (all_map (λ p u. added_line_lem p u) A.order (all_used v A.order A.each)) in
        let r = same_root σ v w (kept 0 (omega (arith, T.flat.root))) in
        let e = A.lines in
        let n = B.nam in
        let x = B.obj.kind in
        let g = B.obj.gen in
        let y = kept d (omega (arith, B.parent)) in
        cc;
  }

-- the only line with a used record's directory and name is its own
module _ (P Q σ : ℕ) (v : View) (T : Tree P Q v) (q : ℕ) (u : UsedIn v q) where
  within : (i : ℕ) → v.kind i ≡ 2 → i < 4294967296
  within i k = omega (arith, T.flat.past i (omega arith), T.flat.few)

  pub own : (p : ℕ) → UsedIn v p → (line_of σ v p).standing ≡ under (handle_in σ v (v.dir q)) (v.text q) → p ≡ q
  own p x h =
      let g : handle_in σ v (v.dir p) ≡ handle_in σ v (v.dir q) = cc in
      let e = same_object_lem σ (v.dir p) (v.gen (v.dir p)) (v.dir q) (v.gen (v.dir q)) (within (v.dir p) (T.flat.dirs p x))
      (within (v.dir q) (T.flat.dirs q u)) g in
      one_entry P Q v T.flat (v.dir q) (v.text q) p q (x, e, cc) (u, refl, refl)

  pub not_root : (root_line σ v).standing ≡ under (handle_in σ v (v.dir q)) (v.text q) → ⊥
  not_root h = let z : ◌≡◌ {A = ℕ} 0 1 = cc in omega arith

-- a name is removed: its line is struck
module _ (P Q σ : ℕ) (v w : View) (o q : ℕ) (T : Tree P Q v) (G : Removed Q v w o q) (b : Book) (A : Agrees σ v b) where
  D : List ℕ
  D = handle_in σ v (v.dir q)

  removed_line : (p : ℕ) → UsedIn v p → p ≢ q → line_of σ v p ≡ line_of σ w p
  removed_line p u n =
      same_line σ v w p (G.nam.other p n) (child_stays P Q v w o q T G p u n) (G.other (v.dir p) (G.empty p u)).1

  struck_one : (l : Line) (ls : Book) → l.standing ≡ under D (v.text q) → strike_lines D (v.text q) (l ∷ ls) ≡ strike_lines D (v.text q) ls
  unfolding strike_lines
  struck_one l ls e = ap (λ (x : Bool). cond x (strike_lines D (v.text q) ls) (l ∷ strike_lines D (v.text q) ls)) (at_yes D (v.text q) l e)

  struck_not : (l : Line) (ls : Book) → (l.standing ≡ under D (v.text q) → ⊥) → strike_lines D (v.text q) (l ∷ ls) ≡ l ∷ strike_lines D (v.text q) ls
  unfolding strike_lines
  struck_not l ls n = ap (λ (x : Bool). cond x (strike_lines D (v.text q) ls) (l ∷ strike_lines D (v.text q) ls)) (at_no D (v.text q) l n)

  struck_nil : strike_lines D (v.text q) [] ≡ []
  unfolding strike_lines
  struck_nil = refl

  removed_lines : (ks : List ℕ) → All (UsedIn v) ks
      → strike_lines D (v.text q) (map (line_of σ v) ks ++ (root_line σ v ∷ [])) ≡ map (line_of σ w) (without q ks) ++ (root_line σ w ∷ [])
  unfolding D without
  removed_lines [] h =
      struck_not (root_line σ v) [] (not_root P Q σ v T q G.named.0) ∙ ap (λ (x : Book). root_line σ v ∷ x) struck_nil
      ∙ ap (λ (x : Line). x ∷ []) (same_root σ v w (G.other 0 (λ e. G.not_root (sym e))))
  removed_lines (p ∷ ks) h =
      let r = removed_lines ks h.1 in
      let s = map (line_of σ v) ks ++ (root_line σ v ∷ []) in
      by_cases (ℕ_discrete p q)
      (λ e. struck_one (line_of σ v p) s (let x = e in cc) ∙ r ∙ ap (λ (x : List ℕ). map (line_of σ w) x ++ (root_line σ w ∷ [])) (sym (without_same q p ks e)))
      (λ n. struck_not (line_of σ v p) s (λ y. n (own P Q σ v T q G.named.0 p h.0 y))
      ∙ (λ i. removed_line p h.0 n i ∷ r i) ∙ ap (λ (x : List ℕ). map (line_of σ w) x ++ (root_line σ w ∷ [])) (sym (without_other q p ks n)))

  pub removed_agrees : Agrees σ w (strike_lines (handle_in σ v (v.dir q)) (v.text q) b)
  unfolding D
  removed_agrees = record {
    order = without q A.order;
    each = λ p. by_cases (ℕ_discrete p q)
        (λ e. rw e (times_without q A.order ∙ sym (ind_no (used? w q) (λ u. omega (arith, ap length G.nam.text)))))
        (λ n. times_without_other q p n A.order ∙ A.each p
        ∙ ind_same (used? v p) (used? w p) (λ u. omega (arith, ap length (G.nam.other p n).text)) (λ u. omega (arith, ap length (G.nam.other p n).text)));
    lines = ap (strike_lines D (v.text q)) A.lines ∙ removed_lines A.order (all_used v A.order A.each);
  }

-- a name is moved: its line gets the new directory and name
module _ (P Q σ : ℕ) (v w : View) (q e : ℕ) (t : List ℕ) (T : Tree P Q v) (M : Moved P Q v w q e t) (b : Book) (A : Agrees σ v b) where
  E : List ℕ
  E = handle_in σ v (v.dir q)

  move_yes : (l : Line) → l.standing ≡ under E (v.text q)
      → move_line E (v.text q) (handle_in σ v e) t l ≡ record { handle = l.handle; kind = l.kind; standing = under (handle_in σ v e) t }
  unfolding move_line
  move_yes l x =
      ap (λ (y : Bool). cond y (record { handle = l.handle; kind = l.kind; standing = under (handle_in σ v e) t }) l) (at_yes E (v.text q) l x)

  move_no : (l : Line) → (l.standing ≡ under E (v.text q) → ⊥) → move_line E (v.text q) (handle_in σ v e) t l ≡ l
  unfolding move_line
  move_no l x =
      ap (λ (y : Bool). cond y (record { handle = l.handle; kind = l.kind; standing = under (handle_in σ v e) t }) l) (at_no E (v.text q) l x)

  moved_line : (p : ℕ) → UsedIn v p → move_line E (v.text q) (handle_in σ v e) t (line_of σ v p) ≡ line_of σ w p
  unfolding E
  moved_line p u = by_cases (ℕ_discrete p q)
      (λ x. move_yes (line_of σ v p) (let y = x in cc)
      ∙ (let n = M.nam in let k = M.kinds (v.child q) in let g = M.gens (v.child q) in let f = M.gens e in cc))
      (λ n. move_no (line_of σ v p) (λ y. n (own P Q σ v T q M.used p u y))
      ∙ same_line σ v w p (M.nam.other p n) (M.kinds (v.child p), M.gens (v.child p)) (M.gens (v.dir p)))

  moved_root : move_line E (v.text q) (handle_in σ v e) t (root_line σ v) ≡ root_line σ w
  unfolding E
  moved_root = move_no (root_line σ v) (not_root P Q σ v T q M.used) ∙ same_root σ v w (M.kinds 0, M.gens 0)

  moved_lines : (ks : List ℕ) → All (UsedIn v) ks
      → move_lines E (v.text q) (handle_in σ v e) t (map (line_of σ v) ks ++ (root_line σ v ∷ [])) ≡ map (line_of σ w) ks ++ (root_line σ w ∷ [])
  unfolding move_lines
  moved_lines [] h = λ i. moved_root i ∷ []
  moved_lines (p ∷ ks) h = λ i. moved_line p h.0 i ∷ moved_lines ks h.1 i

  pub moved_agrees : Agrees σ w (move_lines (handle_in σ v (v.dir q)) (v.text q) (handle_in σ v e) t b)
  unfolding E
  moved_agrees = record {
    order = A.order;
    each = λ p. A.each p ∙ ind_same (used? v p) (used? w p)
        (λ u. by_cases (ℕ_discrete p q) (λ x. omega (arith, M.some, ap (λ (y : ℕ). length (w.text y)) x, ap length M.nam.text))
        (λ n. omega (arith, ap length (M.nam.other p n).text)))
        (λ u. by_cases (ℕ_discrete p q) (λ x. omega (arith, M.used, ap (λ (y : ℕ). length (v.text y)) x))
        (λ n. omega (arith, ap length (M.nam.other p n).text)));
    lines = ap (move_lines E (v.text q) (handle_in σ v e) t) A.lines ∙ moved_lines A.order (all_used v A.order A.each);
  }

-- the book has a line for a directory and a name where the store has a record
module _ (P Q σ : ℕ) (v : View) (T : Tree P Q v) (b : Book) (A : Agrees σ v b) (d : ℕ) (t : List ℕ) (directory : v.kind d ≡ 2) where
  small : (i : ℕ) → v.kind i ≡ 2 → i < 4294967296
  small i k = omega (arith, T.flat.past i (omega arith), T.flat.few)

  line_at : (p : ℕ) → UsedIn v p → (line_of σ v p).standing ≡ under (handle_in σ v d) t → At v p d t
  line_at p u h =
      let g : handle_in σ v (v.dir p) ≡ handle_in σ v d = cc in
      (u, same_object_lem σ (v.dir p) (v.gen (v.dir p)) d (v.gen d) (small (v.dir p) (T.flat.dirs p u)) (small d directory) g, cc)

  root_not : (root_line σ v).standing ≡ under (handle_in σ v d) t → ⊥
  root_not h = let z : ◌≡◌ {A = ℕ} 0 1 = cc in omega arith

  pub none_at : entries_at Q v d t ≡ 0 → some_at (handle_in σ v d) t b ≡ false
  unfolding some_at
  none_at z = ap (some_at (handle_in σ v d) t) A.lines ∙ go A.order (all_used v A.order A.each)
    where
      go : (ks : List ℕ) → All (UsedIn v) ks → some_at (handle_in σ v d) t (map (line_of σ v) ks ++ (root_line σ v ∷ [])) ≡ false
      go [] h = ap (λ (x : Bool). x || false) (at_no (handle_in σ v d) t (root_line σ v) root_not)
      go (p ∷ ks) h = ap₂ (λ (x y : Bool). x || y)
          (at_no (handle_in σ v d) t (line_of σ v p) (λ x. no_entry Q v d t p z (T.flat.rows p h.0) (line_at p h.0 x))) (go ks h.1)

  pub some_at_lem : (q : ℕ) → At v q d t → some_at (handle_in σ v d) t b ≡ true
  unfolding some_at times
  some_at_lem q a = ap (some_at (handle_in σ v d) t) A.lines ∙ go A.order (omega (arith, A.each q, ind_yes (used? v q) a.0))
    where
      go : (ks : List ℕ) → 0 < times q ks → some_at (handle_in σ v d) t (map (line_of σ v) ks ++ (root_line σ v ∷ [])) ≡ true
      go [] h = absurd (omega arith)
      go (p ∷ ks) h = by_cases (ℕ_discrete p q)
          (λ e. ap (λ (x : Bool). x || some_at (handle_in σ v d) t (map (line_of σ v) ks ++ (root_line σ v ∷ [])))
          (at_yes (handle_in σ v d) t (line_of σ v p) (let x = a.1 in let y = a.2 in cc)))
          (λ n. ap (λ (x : Bool). is_at (handle_in σ v d) t (line_of σ v p) || x) (go ks (omega (arith, ap bit (ne_eqb p q n))))
          ∙ or_right (is_at (handle_in σ v d) t (line_of σ v p)) true refl)

-- where no line has a directory and a name, none is struck, and there is no handle
module _ (d t : List ℕ) where
  pub strike_none : (b : Book) → some_at d t b ≡ false → strike_lines d t b ≡ b
  unfolding some_at strike_lines
  strike_none [] e = refl
  strike_none (l ∷ ls) e =
      let (x, y) = or_none (is_at d t l) (some_at d t ls) e in
      ap (λ (z : Bool). cond z (strike_lines d t ls) (l ∷ strike_lines d t ls)) x ∙ ap (λ (z : Book). l ∷ z) (strike_none ls y)

  pub handle_none : (b : Book) → some_at d t b ≡ false → handle_under d t b ≡ none
  unfolding some_at handle_under
  handle_none [] e = refl
  handle_none (l ∷ ls) e =
      let (x, y) = or_none (is_at d t l) (some_at d t ls) e in
      ap (λ (z : Bool). cond z (some l.handle) (handle_under d t ls)) x ∙ handle_none ls y
