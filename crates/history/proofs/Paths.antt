-- Paths in the store and in the book: one for each directory and for each name, and short. Assumes nothing.
use mathlib.Core.Path.{◌≡◌, refl, sym, ap, ◌∙◌, subst}
use mathlib.Core.Logic.{◌⊎◌, inl, inr}
use mathlib.Core.Bool.{true}
use mathlib.Core.List.{List, [], ◌∷◌, map}
use Prim.Native.Nat.{ℕ, suc, ◌≤◌, ◌<◌}
use native.Mathlib.Omega.{arith}
use lib.ListN.{length, length-map}
use Rattle.spec.specs.Image.{Store, objects, names, name_at}
use Rattle.spec.specs.Room.{is_directory, is_used_name}
use Rattle.laws.proofs.Count.{true_false}
use Rattle.laws.proofs.Valid.{directory_true}
use Rattle.history.specs.Book.{Standing, as_root, under, Line, Ledger}
use Rattle.history.specs.Statement.{In, HasLine, StoredPath, BookPath, live_objects, has_name}
use Rattle.history.proofs.View.{LiveIn, UsedIn, Path}
use Rattle.history.proofs.Tree.{Tree, single, path_same, path_short}
use Rattle.history.proofs.Agree.{handle_in, line_of, root_line}
use Rattle.history.proofs.Seen.{view, kind_at, dir_at, child_at, used_in, used_of, of_used}
use Rattle.history.proofs.Inv.{Inv, tree}
use Rattle.history.proofs.Lines.{in_book, lined_current, same_live}
use Rattle.history.proofs.Counts.{living_count}

module _ (σ p q r : ℕ) (s : Store) (L : Ledger) (I : Inv σ p q r s L) where
  T : Tree p q (view s)
  T = tree σ p q r s L I

  stored_of : (ns : List ℕ) (o : ℕ) → Path (view s) o ns → StoredPath s o ns
  stored_of [] o a = a
  stored_of (n ∷ ns) o a =
      let l = used_in s n a.0.0 in (
        (l, used_of s I.valid.good_names n l a.0.0, sym (child_at s n l) ∙ a.0.1),
        stored_of ns (name_at s n).directory (subst (λ (d : ℕ). Path (view s) d ns) (dir_at s n l) a.1),
      )

  of_stored : (ns : List ℕ) (o : ℕ) → StoredPath s o ns → Path (view s) o ns
  of_stored [] o a = a
  of_stored (n ∷ ns) o (a, b) =
      let (l, u, e) = a in (
        (of_used s I.valid.good_names n l u, child_at s n l ∙ e),
        subst (λ (d : ℕ). Path (view s) d ns) (sym (dir_at s n l))
            (of_stored ns (name_at s n).directory b),
      )

  -- a path that is shorter than there are live objects
  short : (ns : List ℕ) (o : ℕ) → Path (view s) o ns → suc (length ns) ≤ live_objects s
  unfolding T
  short ns o a = omega (arith, path_short p q (view s) T ns o a, living_count σ p q r s L I)

  -- a directory has one
  one_path : (o : ℕ) → (view s).kind o ≡ 2 → (ns : List ℕ) × Path (view s) o ns × ((ms : List ℕ) → Path (view s) o ms → ms ≡ ns)
  unfolding T
  one_path o k =
      let w = T.leads o (omega arith) in
      (w.0, w.1, (λ ms a. path_same p q (view s) T ms w.0 o (single p q (view s) T.flat o k) a w.1))

  pub stored_path_lem : (o : ℕ) → o < objects s → is_directory s o ≡ true → (ns : List ℕ)
      × StoredPath s o ns × ((ms : List ℕ) → StoredPath s o ms → ms ≡ ns) × (suc (length ns) ≤ live_objects s)
  stored_path_lem o l e =
      let (ns, a, u) = one_path o (kind_at s o l ∙ directory_true s o e) in
      (ns, stored_of ns o a, (λ ms b. u ms (of_stored ms o b)), short ns o a)

  -- a name goes on with its directory's path
  pub name_path_lem : (n : ℕ) → n < names s → is_used_name s n ≡ true → (ns : List ℕ)
      × StoredPath s (name_at s n).child (n ∷ ns) × ((ms : List ℕ) → StoredPath s (name_at s n).child (n ∷ ms) → ms ≡ ns)
      × (suc (length (n ∷ ns)) ≤ live_objects s)
  unfolding T
  name_path_lem n l e =
      let v = of_used s I.valid.good_names n l e in
      let (ns, a, u) = one_path ((view s).dir n) (T.flat.dirs n v) in
      let b : Path (view s) (name_at s n).child (n ∷ ns) = ((v, child_at s n l), a) in
      (ns, stored_of (n ∷ ns) (name_at s n).child b, (λ ms c. u ms (of_stored (n ∷ ms) (name_at s n).child c).1), short (n ∷ ns) (name_at s n).child b)

  -- ---- in the book
  line : ℕ → Line
  line n = line_of σ (view s) n

  lines_of : (ns : List ℕ) (o : ℕ) → Path (view s) o ns → BookPath L.book (handle_in σ (view s) o) (map line ns)
  unfolding line
  lines_of [] o a = (root_line σ (view s), (in_book σ p q r s L I (root_line σ (view s))).1 (inl refl), ap (handle_in σ (view s)) (sym a), refl)
  lines_of (n ∷ ns) o a = (
    (in_book σ p q r s L I (line n)).1 (inr (n, a.0.0, refl)),
    ap (handle_in σ (view s)) a.0.1,
    (handle_in σ (view s) ((view s).dir n), (view s).text n, refl, lines_of ns ((view s).dir n) a.1),
  )

  clash : (x : Standing) (d text : List ℕ) → x ≡ as_root → x ≡ under d text → ⊥
  clash x d text a b = let z : ◌≡◌ {A = ℕ} 0 1 = cc in omega arith

  of_lines : (ls : List Line) (o : ℕ) → LiveIn (view s) o → BookPath L.book (handle_in σ (view s) o) ls
      → (ns : List ℕ) × (ls ≡ map line ns) × Path (view s) o ns
  unfolding line T
  of_lines [] o v (l, m, e, f) = go ((in_book σ p q r s L I l).0 m)
    where
      go : (l ≡ root_line σ (view s)) ⊎ ((n : ℕ) × UsedIn (view s) n × (line_of σ (view s) n ≡ l))
          → (ns : List ℕ) × (◌≡◌ {A = List Line} [] (map line ns)) × Path (view s) o ns
      go (inl x) = ([], refl, same_live σ p q r s L I o 0 v (omega (arith, T.flat.root)) (sym e ∙ ap (λ (k : Line). k.handle) x))
      go (inr (n, u, x)) = absurd (clash l.standing (handle_in σ (view s) ((view s).dir n)) ((view s).text n) f (ap (λ (k : Line). k.standing) (sym x)))
  of_lines (l ∷ ls) o v (m, e, (d, text, f, w)) = go ((in_book σ p q r s L I l).0 m)
      (λ j a x. of_lines ls j a (subst (λ (h : List ℕ). BookPath L.book h ls) x w))
    where
      go : (l ≡ root_line σ (view s)) ⊎ ((n : ℕ) × UsedIn (view s) n × (line_of σ (view s) n ≡ l))
          → ((j : ℕ) → LiveIn (view s) j → d ≡ handle_in σ (view s) j → (ns : List ℕ) × (ls ≡ map line ns) × Path (view s) j ns)
          → (ns : List ℕ) × (l ∷ ls ≡ map line ns) × Path (view s) o ns
      go (inl x) up = absurd (clash l.standing d text (ap (λ (k : Line). k.standing) x) f)
      go (inr (n, u, x)) up =
          let y : under d text ≡ under (handle_in σ (view s) ((view s).dir n)) ((view s).text n) = sym f ∙ ap (λ (k : Line). k.standing) (sym x) in
          let k = T.flat.dirs n u in
          let (ns, b, c) = up ((view s).dir n) (omega arith) (cc) in
          (n ∷ ns, (λ i. sym x i ∷ b i), ((u, same_live σ p q r s L I ((view s).child n) o (T.flat.ends n u) v (ap (λ (k : Line). k.handle) x ∙ e)), c))

  pub book_path_lem : (h : List ℕ) → HasLine L.book h 2 → (ls : List Line)
      × BookPath L.book h ls × ((ks : List Line) → BookPath L.book h ks → ks ≡ ls) × (suc (length ls) ≤ live_objects s)
  unfolding line
  book_path_lem h x =
      let (o, v, e, f) = lined_current σ p q r s L I h 2 x in
      let (ns, a, u) = one_path o f in (
        map line ns,
        subst (λ (g : List ℕ). BookPath L.book g (map line ns)) (sym e) (lines_of ns o a),
        (λ ks w. let (ms, b, c) = of_lines ks o v (subst (λ (g : List ℕ). BookPath L.book g ks) e w) in b ∙ ap (map line) (u ms c)),
        omega (arith, length-map ns line, short ns o a),
      )

  -- a line with a name goes on with its directory's path
  pub line_path_lem : (l : Line) → In l L.book → has_name l.standing ≡ true → (ls : List Line)
      × BookPath L.book l.handle (l ∷ ls) × ((ks : List Line) → BookPath L.book l.handle (l ∷ ks) → ks ≡ ls)
      × (suc (length (l ∷ ls)) ≤ live_objects s)
  unfolding line T
  line_path_lem l m t = go ((in_book σ p q r s L I l).0 m)
    where
      go : (l ≡ root_line σ (view s)) ⊎ ((n : ℕ) × UsedIn (view s) n × (line_of σ (view s) n ≡ l)) → (ls : List Line)
          × BookPath L.book l.handle (l ∷ ls) × ((ks : List Line) → BookPath L.book l.handle (l ∷ ks) → ks ≡ ls)
          × (suc (length (l ∷ ls)) ≤ live_objects s)
      go (inl x) = true_false (sym t ∙ ap (λ (k : Line). has_name k.standing) x)
      go (inr (n, u, x)) =
          let d = (view s).dir n in
          let o = (view s).child n in
          let k = T.flat.dirs n u in
          let (ns, a, only) = one_path d k in
          let b : Path (view s) o (n ∷ ns) = ((u, refl), a) in (
            map line ns,
            subst (λ (y : Line). BookPath L.book y.handle (y ∷ map line ns)) x (lines_of (n ∷ ns) o b),
            (λ ks w.
                let (_, _, (g, text, f, up)) = w in
                let y : under (handle_in σ (view s) d) ((view s).text n) ≡ under g text = ap (λ (j : Line). j.standing) x ∙ f in
                let z : g ≡ handle_in σ (view s) d = cc in
                let (ms, c, e) = of_lines ks d (omega arith) (subst (λ (i : List ℕ). BookPath L.book i ks) z up) in
                c ∙ ap (map line) (only ms e)),
            omega (arith, length-map ns line, short (n ∷ ns) o b),
          )
