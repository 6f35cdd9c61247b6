-- A name of a new object, or another name of a file, keeps the tree. Assumes nothing.
use mathlib.Core.Path.{◌≡◌, sym, ap, ◌∙◌, subst}
use mathlib.Core.Logic.{◌≢◌, by_cases}
use mathlib.Core.List.{List, ◌∷◌}
use Prim.Native.Nat.{ℕ}
use native.Mathlib.Decide.{ℕ_discrete}
use native.Mathlib.Omega.{arith}
use lib.ListN.{length}
use Rattle.spec.specs.Check.{most_names}
use Rattle.history.proofs.Sum.{ind, ind_yes, ind_no, ind_le}
use Rattle.history.proofs.View.{View, LiveIn, UsedIn, names?, at?, namings_in, entries_at, Path, namings_set, entries_set}
use Rattle.history.proofs.Tree.{Tree}
use Rattle.history.proofs.Change.{Named, named_kinds, named_records, path_kept}

module _ (P Q : ℕ) (v w : View) (o q k d : ℕ) (t : List ℕ) (T : Tree P Q v) (B : Named P Q v w o q k d t) where
  kept : (i : ℕ) → LiveIn v i → w.kind i ≡ v.kind i
  kept = named_kinds P Q v w o q k d t B

  blank : (i : ℕ) → ind (names? v q i) ≡ 0
  blank i = ind_no (names? v q i) (λ h. omega (arith, B.was_blank))

  used_w : (p : ℕ) → p ≢ q → UsedIn w p → UsedIn v p
  used_w p n u = omega (arith, ap length (B.nam.other p n).text)

  path_named : (qs : List ℕ) (i : ℕ) → Path v i qs → Path w i qs
  path_named qs i a = (path_kept v w 0 (named_records P Q v w o q k d t B) qs i a).0

  pub named_tree : Tree P Q w
  named_tree = record {
    flat = record {
      few = T.flat.few;
      root = kept 0 (omega (arith, T.flat.root)) ∙ T.flat.root;
      past = λ i l. by_cases (ℕ_discrete i o) (λ e. omega (arith, B.in_objs)) (λ n. T.flat.past i (omega (arith, (B.obj.other i n).0)));
      rows = λ p u. by_cases (ℕ_discrete p q) (λ e. omega (arith, B.in_names)) (λ n. T.flat.rows p (used_w p n u));
      dirs = λ p u. by_cases (ℕ_discrete p q)
          (λ e. ap w.kind (ap w.dir e ∙ B.nam.dir) ∙ kept d (omega (arith, B.parent)) ∙ B.parent)
          (λ n. let h = T.flat.dirs p (used_w p n u) in ap w.kind (B.nam.other p n).dir ∙ kept (v.dir p) (omega arith) ∙ h);
      ends = λ p u. by_cases (ℕ_discrete p q)
          (λ e. omega (arith, ap w.kind (ap w.child e ∙ B.nam.child), B.obj.kind, B.live))
          (λ n. let h = T.flat.ends p (used_w p n u) in omega (arith, ap w.kind (B.nam.other p n).child, kept (v.child p) h));
      never = omega (
        arith,
        namings_set Q v w q d o t B.nam B.in_names 0,
        blank 0,
        T.flat.never,
        ind_no (names? w q 0) (λ h. B.not_root (sym B.nam.child ∙ h.1)),
      );
      once = λ i n l. by_cases (ℕ_discrete i o)
          (λ e. omega (
            arith,
            namings_set Q v w q d o t B.nam B.in_names i,
            blank i,
            B.few,
            ap (namings_in Q v) e,
            ap most_names (ap w.kind e ∙ B.obj.kind),
            ind_yes (names? w q i) (omega (arith, B.some, ap length B.nam.text), B.nam.child ∙ sym e),
          ))
          (λ x. omega (
            arith,
            namings_set Q v w q d o t B.nam B.in_names i,
            blank i,
            T.flat.once i n (omega (arith, (B.obj.other i x).0)),
            ap most_names (B.obj.other i x).0,
            ind_no (names? w q i) (λ h. x (sym h.1 ∙ B.nam.child)),
          ));
      apart = λ e u. by_cases (at? w q e u)
          (λ h. omega (
            arith,
            entries_set Q v w q d o t B.nam B.in_names e u,
            ind_le (at? w q e u),
            B.absent,
            ap (λ (x : ℕ). entries_at Q v x u) (sym B.nam.dir ∙ h.1),
            ap (entries_at Q v d) (sym B.nam.text ∙ h.2),
          ))
          (λ h. omega (arith, entries_set Q v w q d o t B.nam B.in_names e u, T.flat.apart e u, ind_no (at? w q e u) h));
    };
    leads = λ i l. by_cases (ℕ_discrete i o)
        (λ e. let r = T.leads d (omega (arith, B.parent)) in (
          q ∷ r.0,
          (
            (omega (arith, B.some, ap length B.nam.text), B.nam.child ∙ sym e),
            subst (λ (x : ℕ). Path w x r.0) (sym B.nam.dir)
                (path_named r.0 d r.1),
          ),
        ))
        (λ n. let r = T.leads i (omega (arith, (B.obj.other i n).0)) in (r.0, path_named r.0 i r.1));
  }
