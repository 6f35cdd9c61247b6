-- A move keeps the tree. Assumes nothing.
use mathlib.Core.Path.{◌≡◌, sym, ap, ◌∙◌, subst}
use mathlib.Core.Logic.{by_cases}
use mathlib.Core.List.{List, [], ◌∷◌}
use Prim.Native.Nat.{ℕ, ◌<◌}
use native.Mathlib.Decide.{ℕ_discrete}
use native.Mathlib.Omega.{arith}
use lib.ListN.{length}
use Rattle.spec.specs.Check.{most_names}
use Rattle.history.proofs.Sum.{ind_same, ind_no, ind_le}
use Rattle.history.proofs.View.{View, LiveIn, UsedIn, names?, at?, namings_in, entries_at, Path, namings_set, entries_set}
use Rattle.history.proofs.Tree.{Tree}
use Rattle.history.proofs.Change.{Moved, path_avoids}

module _ (P Q : ℕ) (v w : View) (q e : ℕ) (t : List ℕ) (T : Tree P Q v) (M : Moved P Q v w q e t) where
  row : q < Q
  row = T.flat.rows q M.used

  before : (p : ℕ) → UsedIn w p → UsedIn v p
  before p u = by_cases (ℕ_discrete p q)
      (λ x. omega (arith, ap (λ (y : ℕ). length (v.text y)) x, M.used))
      (λ n. omega (arith, ap length (M.nam.other p n).text))

  childs : (p : ℕ) → w.child p ≡ v.child p
  childs p = by_cases (ℕ_discrete p q) (λ x. ap w.child x ∙ M.nam.child ∙ ap v.child (sym x)) (λ n. (M.nam.other p n).child)

  live : (i : ℕ) → LiveIn w i → LiveIn v i
  live i l = omega (arith, M.kinds i)

  now : UsedIn w q
  now = omega (arith, M.some, ap length M.nam.text)

  same_naming : (i : ℕ) → namings_in Q w i ≡ namings_in Q v i
  same_naming i = omega (
    arith,
    namings_set Q v w q e (v.child q) t M.nam row i,
    ind_same (names? v q i) (names? w q i) (λ h. (now, childs q ∙ h.1)) (λ h. (M.used, sym (childs q) ∙ h.1)),
  )

  -- the new directory's path is as it was
  target : (qs : List ℕ) → Path v e qs → Path w e qs
  target qs a = path_avoids v w (v.child q) (λ p u n. M.nam.other p (λ x. n (ap v.child x))) qs e a (M.clear qs a)

  module _ (es : List ℕ) (up : Path w e es) where
    step : (qs : List ℕ) (i : ℕ) → Path v i qs → (ps : List ℕ) × Path w i ps
    step [] i a = ([], a)
    step (p ∷ qs) i a =
        let r = step qs (v.dir p) a.1 in
        by_cases (ℕ_discrete p q)
        (λ x. (q ∷ es, ((now, M.nam.child ∙ ap v.child (sym x) ∙ a.0.1), subst (λ (y : ℕ). Path w y es) (sym M.nam.dir) up)))
        (λ n. let s = M.nam.other p n in
        (p ∷ r.0, ((omega (arith, ap length s.text), s.child ∙ a.0.1), subst (λ (y : ℕ). Path w y r.0) (sym s.dir) r.1)))

  pub moved_tree : Tree P Q w
  moved_tree = record {
    flat = record {
      few = T.flat.few;
      root = M.kinds 0 ∙ T.flat.root;
      past = λ i l. T.flat.past i (live i l);
      rows = λ p u. T.flat.rows p (before p u);
      dirs = λ p u. by_cases (ℕ_discrete p q)
          (λ x. ap w.kind (ap w.dir x ∙ M.nam.dir) ∙ M.kinds e ∙ M.parent)
          (λ n. ap w.kind (M.nam.other p n).dir ∙ M.kinds (v.dir p) ∙ T.flat.dirs p (before p u));
      ends = λ p u. omega (arith, T.flat.ends p (before p u), ap w.kind (childs p), M.kinds (v.child p));
      never = same_naming 0 ∙ T.flat.never;
      once = λ i z l. omega (arith, same_naming i, T.flat.once i z (live i l), ap most_names (M.kinds i));
      apart = λ d u. by_cases (at? w q d u)
          (λ h. omega (
            arith,
            entries_set Q v w q e (v.child q) t M.nam row d u,
            ind_le (at? w q d u),
            M.absent,
            ap (λ (x : ℕ). entries_at Q v x u) (sym M.nam.dir ∙ h.1),
            ap (entries_at Q v e) (sym M.nam.text ∙ h.2),
          ))
          (λ h. omega (arith, entries_set Q v w q e (v.child q) t M.nam row d u, T.flat.apart d u, ind_no (at? w q d u) h));
    };
    leads = λ i l.
        let f = T.leads e (omega (arith, M.parent)) in
        let r = T.leads i (live i l) in
        step f.0 (target f.0 f.1) r.0 i r.1;
  }
