-- What the invariant says of the book's lines: they are the store's objects and names, one each. Assumes nothing.
use mathlib.Core.Path.{◌≡◌, refl, sym, ap, ◌∙◌, subst}
use mathlib.Core.Logic.{◌↔◌, ◌⊎◌, inl, inr, by_cases, ⊎_elim}
use mathlib.Core.Bool.{Bool, cond}
use mathlib.Core.Option.{some}
use mathlib.Core.List.{List, [], ◌∷◌, ◌++◌, map, Memᴰ}
use Prim.Native.Nat.{ℕ, zero, suc, ◌+◌, ◌*◌, ◌≤◌, ◌<◌}
use native.Mathlib.Decide.{ℕ_discrete}
use native.Mathlib.Nat.{not-suc-le-zero, zero-mul, one-mul, add-mul}
use native.Mathlib.Omega.{arith}
use lib.Dec.{eqb}
use borrow.Author.Tests.{eq-eqb, ne_eqb}
use Rattle.spec.specs.Count.{bit, sum, times}
use Rattle.spec.specs.Handles.{handle_of}
use Rattle.spec.specs.Image.{Store, objects, name_at}
use Rattle.spec.specs.Room.{find_name}
use Rattle.laws.proofs.Count.{sum_ext, sum_zero, sum_add}
use Rattle.laws.proofs.Valid.{true_live}
use Rattle.history.specs.Book.{as_root, under, Line, Book, Ledger, handle_under}
use Rattle.history.specs.Statement.{In, HasLine, HasName, StoredObject, StoredName, StandApart}
use Rattle.history.proofs.Sum.{ind_yes, ind_true, ind_le}
use Rattle.history.proofs.Lists.{All, times_all}
use Rattle.history.proofs.View.{LiveIn, UsedIn, named_by}
use Rattle.history.proofs.Tree.{Tree}
use Rattle.history.proofs.Handles.{same_object_lem}
use Rattle.history.proofs.Agree.{Agrees, handle_in, line_of, root_line, at_yes, at_no, used?, all_used, own, not_root}
use Rattle.history.proofs.Seen.{view, kind_at, dir_at, child_at, text_at, live_in, used_in, used_of, of_used}
use Rattle.history.proofs.Inv.{Inv, tree}
use Rattle.history.proofs.Checks.{found_name_lem}
use Rattle.history.proofs.Making.{handle_seen}
use Rattle.history.proofs.Sizes.{seen_live}

-- ---- sums over lists
unfoldable pub total : {A : Type 0} → (A → ℕ) → List A → ℕ
total f [] = 0
total f (x ∷ xs) = f x + total f xs

pub total_append : {A : Type 0} (f : A → ℕ) (xs ys : List A) → total f (xs ++ ys) ≡ total f xs + total f ys
unfolding total
total_append f [] ys = omega arith
total_append f (x ∷ xs) ys = omega (arith, total_append f xs ys)

pub total_map : {A B : Type 0} (f : B → ℕ) (g : A → B) (xs : List A) → total f (map g xs) ≡ total (λ x. f (g x)) xs
unfolding total
total_map f g [] = refl
total_map f g (x ∷ xs) = omega (arith, total_map f g xs)

-- a term with a factor of 0 or 1
pub factor_no : (k x : ℕ) → k ≡ 0 → k * x ≡ 0
factor_no k x e = ap (λ (j : ℕ). j * x) e ∙ zero-mul x

pub factor_yes : (k x : ℕ) → k ≡ 1 → k * x ≡ x
factor_yes k x e = ap (λ (j : ℕ). j * x) e ∙ one-mul x

sum_single : (n x : ℕ) (f : ℕ → ℕ) → x < n → sum n (λ i. bit (eqb x i) * f i) ≡ f x
unfolding sum
sum_single zero x f l = absurd (not-suc-le-zero l)
sum_single (suc n) x f l = by_cases (ℕ_discrete x n)
    (λ e. let z = sum_zero n (λ i. bit (eqb x i) * f i) (λ i k. factor_no (bit (eqb x i)) (f i) (ap bit (ne_eqb x i (λ q. omega arith)))) in
    let y : bit (eqb x n) * f n ≡ f x = factor_yes (bit (eqb x n)) (f n) (ap bit (eq-eqb x n e)) ∙ sym (ap f e) in
    omega arith)
    (λ d. let r = sum_single n x f (omega arith) in
    let y : bit (eqb x n) * f n ≡ 0 = factor_no (bit (eqb x n)) (f n) (ap bit (ne_eqb x n d)) in
    omega arith)

-- a sum over a list of numbers below n
pub total_times : (n : ℕ) (f : ℕ → ℕ) (xs : List ℕ) → All (λ x. x < n) xs → total f xs ≡ sum n (λ i. times i xs * f i)
unfolding total times
total_times n f [] h = sym (sum_zero n (λ i. 0 * f i) (λ i l. zero-mul (f i)))
total_times n f (x ∷ xs) h =
    let a = sum_single n x f h.0 in
    let b = total_times n f xs h.1 in
    let c = sum_add n (λ i. bit (eqb x i) * f i) (λ i. times i xs * f i) in
    let d = sum_ext n (λ i. (bit (eqb x i) + times i xs) * f i) (λ i. bit (eqb x i) * f i + times i xs * f i)
    (λ i l. add-mul (bit (eqb x i)) (times i xs) (f i)) in
    omega arith

-- ---- members, and how often they stand in a list
pub member_times : (n : ℕ) (xs : List ℕ) → Memᴰ n xs → 0 < times n xs
unfolding times
member_times n [] k = absurd (mathlib.Core.List.Memᴰ.not-nil k)
member_times n (x ∷ xs) k = ⊎_elim
    (λ (e : n ≡ x). omega (arith, ap bit (eq-eqb x n (sym e))))
    (λ (j : Memᴰ n xs). omega (arith, member_times n xs j))
    (mathlib.Core.List.Memᴰ.cases_cons k)

pub times_member : (n : ℕ) (xs : List ℕ) → 0 < times n xs → Memᴰ n xs
unfolding times
times_member n [] h = absurd (not-suc-le-zero h)
times_member n (x ∷ xs) h = by_cases (ℕ_discrete x n)
    (λ e. mathlib.Core.List.Memᴰ.head (sym e))
    (λ d. mathlib.Core.List.Memᴰ.tail (times_member n xs (omega (arith, ap bit (ne_eqb x n d)))))

-- a line that stands there has the handle that the book gives there
line_handle : (b : Book) → StandApart b → (d text : List ℕ) (l : Line) → In l b → l.standing ≡ under d text → handle_under d text b ≡ some l.handle
unfolding handle_under
line_handle [] h d text l m e = absurd (mathlib.Core.List.Memᴰ.not-nil m)
line_handle (x ∷ b) h d text l m e = ⊎_elim
    (λ (u : l ≡ x). ap (λ (t : Bool). cond t (some x.handle) (handle_under d text b)) (at_yes d text x (ap (λ (y : Line). y.standing) (sym u) ∙ e))
    ∙ ap (λ (y : Line). some y.handle) (sym u))
    (λ (u : Memᴰ l b). ap (λ (t : Bool). cond t (some x.handle) (handle_under d text b))
    (at_no d text x (λ z. h.0 l u (e ∙ sym z))) ∙ line_handle b h.1 d text l u e)
    (mathlib.Core.List.Memᴰ.cases_cons m)

module _ (σ p q r : ℕ) (s : Store) (L : Ledger) (I : Inv σ p q r s L) where
  T : Tree p q (view s)
  T = tree σ p q r s L I

  A : Agrees σ (view s) L.book
  A = I.agrees

  order_used : (n : ℕ) → 0 < times n A.order → UsedIn (view s) n
  order_used n k = ind_true (used? (view s) n) (omega (arith, A.each n))

  -- ---- the lines, one by one
  pub in_book : (l : Line) → In l L.book ↔ ((l ≡ root_line σ (view s)) ⊎ ((n : ℕ) × UsedIn (view s) n × (line_of σ (view s) n ≡ l)))
  unfolding A
  in_book l = (
    (λ m. ⊎_elim
        (λ (x : Memᴰ l (map (line_of σ (view s)) A.order)). let (n, k, e) = mathlib.Core.List.Memᴰ.of_map (line_of σ (view s)) A.order x in inr
        (n, order_used n (member_times n A.order k), e))
        (λ (x : Memᴰ l (root_line σ (view s) ∷ [])). inl (mathlib.Core.List.Memᴰ.eq_of_singleton x))
        (mathlib.Core.List.Memᴰ.append_cases (map (line_of σ (view s)) A.order) (subst (λ (b : Book). Memᴰ l b) A.lines m))),
    (λ x. subst (λ (b : Book). Memᴰ l b) (sym A.lines) (go x)),
  )
    where
      go : (l ≡ root_line σ (view s)) ⊎ ((n : ℕ) × UsedIn (view s) n × (line_of σ (view s) n ≡ l))
          → Memᴰ l (map (line_of σ (view s)) A.order ++ (root_line σ (view s) ∷ []))
      go (inl e) = mathlib.Core.List.Memᴰ.append_right (map (line_of σ (view s)) A.order) (mathlib.Core.List.Memᴰ.head e)
      go (inr (n, u, e)) = mathlib.Core.List.Memᴰ.append_left (root_line σ (view s) ∷ [])
          (mathlib.Core.List.Memᴰ.cast (sym e) (mathlib.Core.List.Memᴰ.map (line_of σ (view s)) (times_member n A.order (omega (arith, A.each n, ind_yes (used? (view s) n) u)))))

  -- the handle of a live object has a line, of its type, and every line is one of a live object
  pub current_lined : (o : ℕ) → LiveIn (view s) o → HasLine L.book (handle_in σ (view s) o) ((view s).kind o)
  unfolding T
  current_lined o l = by_cases (ℕ_discrete o 0)
      (λ z. (root_line σ (view s), (in_book (root_line σ (view s))).1 (inl refl), ap (handle_in σ (view s)) (sym z), ap (view s).kind (sym z)))
      (λ z. let (n, k, x) = named_by q (view s) o (T.flat.once o z l).0 in
      (line_of σ (view s) n, (in_book (line_of σ (view s) n)).1 (inr (n, x.0, refl)), ap (handle_in σ (view s)) x.1, ap (view s).kind x.1))

  pub lined_current : (h : List ℕ) (kind : ℕ) → HasLine L.book h kind → (o : ℕ) × LiveIn (view s) o × (h ≡ handle_in σ (view s) o) × ((view s).kind o ≡ kind)
  unfolding T
  lined_current h kind (l, m, e, f) = go ((in_book l).0 m)
    where
      go : (l ≡ root_line σ (view s)) ⊎ ((n : ℕ) × UsedIn (view s) n × (line_of σ (view s) n ≡ l))
          → (o : ℕ) × LiveIn (view s) o × (h ≡ handle_in σ (view s) o) × ((view s).kind o ≡ kind)
      go (inl x) = (0, omega (arith, T.flat.root), sym e ∙ ap (λ (y : Line). y.handle) x, ap (λ (y : Line). y.kind) (sym x) ∙ f)
      go (inr (n, u, x)) = ((view s).child n, T.flat.ends n u, sym e ∙ ap (λ (y : Line). y.handle) (sym x), ap (λ (y : Line). y.kind) x ∙ f)

  -- "The store's live objects (handle, type) .. are exactly the book's."
  pub object_lines_lem : (h : List ℕ) (kind : ℕ) → StoredObject s h kind ↔ HasLine L.book h kind
  object_lines_lem h kind = (
    (λ x. let (o, l, live, e, f) = x in
        let v = seen_live s o l live in
        let (y, m, a, b) = current_lined o v in
        (y, m, a ∙ sym (handle_seen σ p q r s L I o l) ∙ e, b ∙ kind_at s o l ∙ f)),
    (λ x. let (o, v, e, f) = lined_current h kind x in
        let l = live_in s o v in
        (o, l, true_live s o (omega (arith, kind_at s o l)), handle_seen σ p q r s L I o l ∙ sym e, sym (kind_at s o l) ∙ f)),
  )

  -- the handles of a name record's two objects
  dir_handle : (n : ℕ) → UsedIn (view s) n → handle_of s (name_at s n).directory ≡ handle_in σ (view s) ((view s).dir n)
  unfolding T
  dir_handle n u =
      let l = used_in s n u in
      let k = T.flat.dirs n u in
      let e = dir_at s n l in
      handle_seen σ p q r s L I (name_at s n).directory (live_in s (name_at s n).directory (omega (arith, ap (view s).kind e))) ∙ ap
      (handle_in σ (view s)) (sym e)

  child_handle : (n : ℕ) → UsedIn (view s) n → handle_of s (name_at s n).child ≡ handle_in σ (view s) ((view s).child n)
  unfolding T
  child_handle n u =
      let l = used_in s n u in
      let k = T.flat.ends n u in
      let e = child_at s n l in
      handle_seen σ p q r s L I (name_at s n).child (live_in s (name_at s n).child (omega (arith, ap (view s).kind e))) ∙ ap (handle_in σ (view s)) (sym e)

  -- ".. and used names (directory's handle, child's handle, name) are exactly the book's."
  pub name_lines_lem : (d h text : List ℕ) → StoredName s d h text ↔ HasName L.book d h text
  name_lines_lem d h text = (
    (λ x. let (n, l, u, a, b, c) = x in
        let v = of_used s I.valid.good_names n l u in
        let dh : handle_in σ (view s) ((view s).dir n) ≡ d = sym (dir_handle n v) ∙ a in
        let t : (view s).text n ≡ text = text_at s n l ∙ c in
        (line_of σ (view s) n, (in_book (line_of σ (view s) n)).1 (inr (n, v, refl)), sym (child_handle n v) ∙ b, (λ i. under (dh i) (t i)))),
    (λ x. let (l, m, e, f) = x in back l e f ((in_book l).0 m)),
  )
    where
      back : (l : Line) → l.handle ≡ h → l.standing ≡ under d text
          → (l ≡ root_line σ (view s)) ⊎ ((n : ℕ) × UsedIn (view s) n × (line_of σ (view s) n ≡ l)) → StoredName s d h text
      back l e f (inl x) = let y : as_root ≡ under d text = ap (λ (z : Line). z.standing) (sym x) ∙ f in let z : ◌≡◌ {A = ℕ} 0 1 = cc in absurd (omega arith)
      back l e f (inr (n, u, x)) =
          let k = used_in s n u in
          let y : under (handle_in σ (view s) ((view s).dir n)) ((view s).text n) ≡ under d text = ap (λ (z : Line). z.standing) x ∙ f in
          let a : handle_in σ (view s) ((view s).dir n) ≡ d = cc in
          let b : (view s).text n ≡ text = cc in
          (n, k, used_of s I.valid.good_names n k u, dir_handle n u ∙ a, child_handle n u ∙ ap (λ (z : Line). z.handle) x ∙ e, sym (text_at s n k) ∙ b)

  -- a name that is found in a directory has a line there
  pub found_line : (h text : List ℕ) (d : ℕ) → d < objects s → h ≡ handle_in σ (view s) d → (n : ℕ) → find_name s d text ≡ some n
      → HasName L.book h (handle_of s (name_at s n).child) text
  found_line h text d below own n e =
      let N = I.valid.good_names in
      let (k, at) = found_name_lem s N d text n e in
      (name_lines_lem h (handle_of s (name_at s n).child) text).0 (
        n,
        k,
        used_of s N n k at.0,
        ap (handle_of s) (sym (dir_at s n k) ∙ at.1) ∙ handle_seen σ p q r s L I d below ∙ sym own,
        refl,
        sym (text_at s n k) ∙ at.2,
      )

  -- no line stands twice
  apart : (ks : List ℕ) → All (UsedIn (view s)) ks → ((n : ℕ) → times n ks ≤ 1) → StandApart (map (line_of σ (view s)) ks ++ (root_line σ (view s) ∷ []))
  unfolding times T
  apart [] h o = ((λ k m e. mathlib.Core.List.Memᴰ.not-nil m), tt)
  apart (n ∷ ks) h o = (
    (λ k m e. ⊎_elim
        (λ (x : Memᴰ k (map (line_of σ (view s)) ks)).
        let (i, j, y) = mathlib.Core.List.Memᴰ.of_map (line_of σ (view s)) ks x in
        let u : UsedIn (view s) i = times_all (UsedIn (view s)) ks i h.1 (member_times i ks j) in
        let z : i ≡ n = own p q σ (view s) T n h.0 i u (ap (λ (l : Line). l.standing) y ∙ e) in
        omega (arith, o i, member_times i ks j, ap bit (eq-eqb n i (sym z))))
        (λ (x : Memᴰ k (root_line σ (view s) ∷ [])).
        not_root p q σ (view s) T n h.0 (ap (λ (l : Line). l.standing) (sym (mathlib.Core.List.Memᴰ.eq_of_singleton x)) ∙ e))
        (mathlib.Core.List.Memᴰ.append_cases (map (line_of σ (view s)) ks) m)),
    apart ks h.1 (λ i. omega (arith, o i)),
  )

  pub stand_apart : StandApart L.book
  unfolding A
  stand_apart = subst StandApart (sym A.lines)
      (apart A.order (all_used (view s) A.order A.each) (λ n. omega (arith, A.each n, ind_le (used? (view s) n))))

  -- live objects with one handle are one
  pub same_live : (i j : ℕ) → LiveIn (view s) i → LiveIn (view s) j → handle_in σ (view s) i ≡ handle_in σ (view s) j → i ≡ j
  unfolding T
  same_live i j u v =
      same_object_lem σ i ((view s).gen i) j ((view s).gen j) (omega (arith, T.flat.past i u, T.flat.few)) (omega (arith, T.flat.past j v, T.flat.few))

  -- the book's handle of a name that has a line, and of one that is found
  pub name_handle : (d text h : List ℕ) → HasName L.book d h text → handle_under d text L.book ≡ some h
  name_handle d text h (l, m, e, f) = line_handle L.book stand_apart d text l m f ∙ ap (λ (x : List ℕ). some x) e

  pub found_handle_lem : (h text : List ℕ) (d : ℕ) → d < objects s → h ≡ handle_in σ (view s) d → (n : ℕ) → find_name s d text ≡ some n
      → handle_under h text L.book ≡ some (handle_in σ (view s) (name_at s n).child)
  found_handle_lem h text d below own n e =
      let (k, at) = found_name_lem s I.valid.good_names d text n e in
      name_handle h text (handle_of s (name_at s n).child) (found_line h text d below own n e)
      ∙ ap (λ (x : List ℕ). some x) (child_handle n at.0 ∙ ap (handle_in σ (view s)) (child_at s n k))
