-- The removal of a name keeps the tree. Assumes nothing.
use mathlib.Core.Path.{◌≡◌, refl, sym, ap, ◌∙◌, subst}
use mathlib.Core.Logic.{◌≢◌, by_cases, ⊎_elim}
use mathlib.Core.List.{List, [], ◌∷◌}
use Prim.Native.Nat.{ℕ, ◌+◌, ◌<◌}
use native.Mathlib.Decide.{ℕ_discrete}
use native.Mathlib.Omega.{arith}
use lib.ListN.{length}
use Rattle.spec.specs.Check.{most_names}
use Rattle.history.proofs.Sum.{ind, ind_yes, ind_no}
use Rattle.history.proofs.View.{View, LiveIn, UsedIn, names?, at?, namings_in, Path, namings_set, entries_set, named_by}
use Rattle.history.proofs.Tree.{Tree}
use Rattle.history.proofs.Change.{Removed, child_stays, path_avoids, avoid_empty}

module _ (P Q : ℕ) (v w : View) (o q : ℕ) (T : Tree P Q v) (G : Removed Q v w o q) where
  row : q < Q
  row = T.flat.rows q G.named.0

  -- a record that is used after is another than q, and was used before
  still : (p : ℕ) → UsedIn w p → (p ≢ q) × UsedIn v p
  still p u =
      let n : p ≢ q = λ e. omega (arith, ap (λ (x : ℕ). length (w.text x)) e, ap length G.nam.text) in
      (n, omega (arith, ap length (G.nam.other p n).text))

  kept : (i : ℕ) → i ≢ o → w.kind i ≡ v.kind i
  kept i n = (G.other i n).0

  alive : (i : ℕ) → LiveIn w i → LiveIn v i
  alive i l = by_cases (ℕ_discrete i o)
      (λ e. omega (arith, T.flat.ends q G.named.0, ap v.kind (G.named.1 ∙ sym e)))
      (λ n. omega (arith, kept i n))

  removed_name_lem : (i : ℕ) → ind (names? w q i) ≡ 0
  removed_name_lem i = ind_no (names? w q i) (λ h. (still q h.0).0 refl)

  count_set : (i : ℕ) → namings_in Q w i + ind (names? v q i) ≡ namings_in Q v i
  count_set i = omega (arith, namings_set Q v w q 0 0 [] G.nam row i, removed_name_lem i)

  -- the object itself, where it is live after: it has another name
  stays : LiveIn w o → (1 < namings_in Q v o) × (w.kind o ≡ v.kind o)
  stays l = ⊎_elim (λ x. absurd (omega (arith, x.1))) (λ x. (x.0, x.1)) G.object

  left : namings_in Q w o + 1 ≡ namings_in Q v o
  left = omega (arith, count_set o, ind_yes (names? v q o) G.named)

  path_left : (i : ℕ) → i ≢ o → LiveIn v i → (qs : List ℕ) × Path w i qs
  path_left i n l = let r = T.leads i l in (
    r.0,
    path_avoids v w o (λ p u m. G.nam.other p (λ e. m (ap v.child e ∙ G.named.1))) r.0 i r.1
        (avoid_empty v o G.not_root G.empty r.0 i n r.1),
  )

  path_object : LiveIn w o → (qs : List ℕ) × Path w o qs
  path_object l =
      let (p, k, x) = named_by Q w o (omega (arith, left, (stays l).0)) in
      let (n, u) = still p x.0 in
      let (qs, a) = path_left (v.dir p) (G.empty p u) (omega (arith, T.flat.dirs p u)) in
      (p ∷ qs, (x, subst (λ (y : ℕ). Path w y qs) (sym (G.nam.other p n).dir) a))

  pub removed_tree : Tree P Q w
  removed_tree = record {
    flat = record {
      few = T.flat.few;
      root = kept 0 (λ e. G.not_root (sym e)) ∙ T.flat.root;
      past = λ i l. T.flat.past i (alive i l);
      rows = λ p u. T.flat.rows p (still p u).1;
      dirs = λ p u. let (n, x) = still p u in
          ap w.kind (G.nam.other p n).dir ∙ kept (v.dir p) (G.empty p x) ∙ T.flat.dirs p x;
      ends = λ p u. let (n, x) = still p u in
          omega (arith, T.flat.ends p x, ap w.kind (G.nam.other p n).child, (child_stays P Q v w o q T G p x n).0);
      never = omega (arith, count_set 0, T.flat.never);
      once = λ i z l. by_cases (ℕ_discrete i o)
          (λ e. let m = subst (LiveIn w) e l in
          omega (
            arith,
            ap (namings_in Q w) e,
            ap (namings_in Q v) e,
            left,
            (stays m).0,
            T.flat.once i z (alive i l),
            ap most_names (ap w.kind e ∙ (stays m).1 ∙ ap v.kind (sym e)),
          ))
          (λ n. omega (
            arith,
            count_set i,
            T.flat.once i z (alive i l),
            ind_no (names? v q i) (λ h. n (sym h.1 ∙ G.named.1)),
            ap most_names (kept i n),
          ));
      apart = λ e u. omega (arith, entries_set Q v w q 0 0 [] G.nam row e u, T.flat.apart e u, ind_no (at? w q e u) (λ h. (still q h.0).0 refl));
    };
    leads = λ i l. by_cases (ℕ_discrete i o)
        (λ e. subst (λ (y : ℕ). (qs : List ℕ) × Path w y qs) (sym e) (path_object (subst (LiveIn w) e l)))
        (λ n. path_left i n (alive i l));
  }
