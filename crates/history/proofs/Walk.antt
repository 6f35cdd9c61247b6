-- Parents as spec computes them: from a live directory, as many steps as there are objects lead to the root, and what is not met within them
-- is not on the path. Assumes nothing.
use mathlib.Core.Path.{◌≡◌, refl, sym, ap, ◌∙◌, subst}
use mathlib.Core.Logic.{◌≢◌, by_cases}
use mathlib.Core.Option.{Option, some, none}
use mathlib.Core.List.{List, [], ◌∷◌}
use Prim.Native.Nat.{ℕ, zero, suc, ◌≤◌, ◌<◌}
use native.Mathlib.Decide.{ℕ_discrete}
use native.Mathlib.Omega.{arith}
use lib.ListN.{length}
use Rattle.spec.specs.Count.{lowest, iterate}
use Rattle.laws.proofs.Count.{lowest_passes, lowest_none, true_false}
use Rattle.history.proofs.Sum.{holds, holds_true, holds_yes}
use Rattle.history.proofs.View.{View, LiveIn, UsedIn, NamesObject, names?, namings_in, Path, Avoids, named_by, not_named}
use Rattle.history.proofs.Tree.{Flat, Tree, one_name_lem, path_same, path_short, single, live_bound}

-- the directory of the record that is found, and 0 where none is
abbrev pub directory_at : View → Option ℕ → ℕ
directory_at v none = 0
directory_at v (some q) = v.dir q

-- the record that names object i
abbrev pub naming : ℕ → View → ℕ → Option ℕ
naming Q v i = lowest Q (λ q. holds (names? v q i))

abbrev pub parent_in : ℕ → View → ℕ → ℕ
parent_in Q v i = directory_at v (naming Q v i)

pub iterate_inner : (n : ℕ) (f : ℕ → ℕ) (x : ℕ) → iterate (suc n) f x ≡ iterate n f (f x)
unfolding iterate
iterate_inner zero f x = refl
iterate_inner (suc n) f x = ap f (iterate_inner n f x)

module _ (P Q : ℕ) (v : View) (F : Flat P Q v) where
  pub parent_of : (q i : ℕ) → namings_in Q v i ≤ 1 → NamesObject v q i → parent_in Q v i ≡ v.dir q
  parent_of q i m n = go (naming Q v i) refl
    where
      go : (x : Option ℕ) → naming Q v i ≡ x → directory_at v x ≡ v.dir q
      go none e = true_false (sym (holds_yes (names? v q i) n) ∙ lowest_none (λ p. holds (names? v p i)) Q q e (F.rows q n.0))
      go (some p) e =
          ap v.dir (one_name_lem P Q v F i p q m (holds_true (names? v p i) (lowest_passes (λ p. holds (names? v p i)) Q p e).passes) n)

  -- a named object's parent is the directory of one of its names
  parent_by : (i : ℕ) → 0 < namings_in Q v i → (q : ℕ) × NamesObject v q i × (parent_in Q v i ≡ v.dir q)
  parent_by i h = go (naming Q v i) refl
    where
      go : (x : Option ℕ) → naming Q v i ≡ x → (q : ℕ) × NamesObject v q i × (directory_at v x ≡ v.dir q)
      go none e =
          let (q, l, n) = named_by Q v i h in
          true_false (sym (holds_yes (names? v q i) n) ∙ lowest_none (λ p. holds (names? v p i)) Q q e l)
      go (some p) e = (p, holds_true (names? v p i) (lowest_passes (λ p. holds (names? v p i)) Q p e).passes, refl)

  pub parent_root : parent_in Q v 0 ≡ 0
  parent_root = go (naming Q v 0) refl
    where
      go : (x : Option ℕ) → naming Q v 0 ≡ x → directory_at v x ≡ 0
      go none e = refl
      go (some p) e =
          let r = lowest_passes (λ p. holds (names? v p 0)) Q p e in
          absurd (not_named Q v 0 p F.never r.below (holds_true (names? v p 0) r.passes))

  walk_root : (n : ℕ) → iterate n (parent_in Q v) 0 ≡ 0
  unfolding iterate
  walk_root zero = refl
  walk_root (suc n) = ap (parent_in Q v) (walk_root n) ∙ parent_root

  path_walk : (n i : ℕ) (qs : List ℕ) → namings_in Q v i ≤ 1 → length qs ≤ n → Path v i qs → iterate n (parent_in Q v) i ≡ 0
  path_walk n i [] k l a = ap (iterate n (parent_in Q v)) a ∙ walk_root n
  path_walk zero i (q ∷ qs) k l a = absurd (omega arith)
  path_walk (suc n) i (q ∷ qs) k l a =
      iterate_inner n (parent_in Q v) i ∙ ap (iterate n (parent_in Q v)) (parent_of q i k a.0)
      ∙ path_walk n (v.dir q) qs (single P Q v F (v.dir q) (F.dirs q a.0.0)) (omega arith) a.1

  -- from a live object, as many steps as there are objects
  pub live_walk : Tree P Q v → (i : ℕ) → LiveIn v i → iterate P (parent_in Q v) i ≡ 0
  live_walk T i l = by_cases (ℕ_discrete i 0)
      (λ z. ap (iterate P (parent_in Q v)) z ∙ walk_root P)
      (λ z. let (q, x, e) = parent_by i (F.once i z l).0 in
      let d = F.dirs q x.0 in
      let (qs, a) = T.leads (v.dir q) (omega arith) in
      go q qs e d a P (omega (arith, path_short P Q v T (q ∷ qs) i (x, a), live_bound P v)))
    where
      go : (q : ℕ) (qs : List ℕ) → parent_in Q v i ≡ v.dir q → v.kind (v.dir q) ≡ 2 → Path v (v.dir q) qs → (n : ℕ) → length qs < n
          → iterate n (parent_in Q v) i ≡ 0
      go q qs e d a zero k = absurd (omega arith)
      go q qs e d a (suc n) k =
          iterate_inner n (parent_in Q v) i ∙ ap (iterate n (parent_in Q v)) e ∙ path_walk n (v.dir q) qs (single P Q v F (v.dir q) d) (omega arith) a

  -- a walk that ends at the root is a path
  pub walk_path : (n i : ℕ) → LiveIn v i → iterate n (parent_in Q v) i ≡ 0 → (qs : List ℕ) × Path v i qs
  unfolding iterate
  walk_path zero i l e = ([], e)
  walk_path (suc n) i l e = by_cases (ℕ_discrete i 0)
      (λ z. ([], z))
      (λ z. let (q, x, w) = parent_by i (F.once i z l).0 in
      let d = F.dirs q x.0 in
      let r = walk_path n (v.dir q) (omega arith)
      (ap (iterate n (parent_in Q v)) (sym w) ∙ sym (iterate_inner n (parent_in Q v) i) ∙ e) in
      (q ∷ r.0, (x, r.1)))

  -- what is met within no number of steps is not on the path
  pub outside : (n c i : ℕ) (qs : List ℕ) → namings_in Q v i ≤ 1 → length qs < n → Path v i qs
      → ((k : ℕ) → k < n → iterate k (parent_in Q v) i ≢ c) → Avoids v c i qs
  unfolding iterate
  outside n c i [] k l a x = x 0 l
  outside zero c i (q ∷ qs) k l a x = absurd (omega arith)
  outside (suc n) c i (q ∷ qs) k l a x = (
    x 0 (omega arith),
    outside n c (v.dir q) qs (single P Q v F (v.dir q) (F.dirs q a.0.0)) (omega arith) a.1
        (λ j m e. x (suc j) (omega arith) (iterate_inner j (parent_in Q v) i ∙ ap (iterate j (parent_in Q v)) (parent_of q i k a.0) ∙ e)),
  )

  -- no number of steps up makes the way to the root longer
  up_shorter : (n i : ℕ) (qs : List ℕ) → namings_in Q v i ≤ 1 → Path v i qs → (ps : List ℕ) × Path v (iterate n (parent_in Q v) i) ps × (length ps ≤ length qs)
  unfolding iterate
  up_shorter zero i qs k a = (qs, a, omega arith)
  up_shorter (suc n) i [] k a = ([], ap (iterate (suc n) (parent_in Q v)) a ∙ walk_root (suc n), omega arith)
  up_shorter (suc n) i (q ∷ qs) k a =
      let (ps, b, l) = up_shorter n (v.dir q) qs (single P Q v F (v.dir q) (F.dirs q a.0.0)) a.1 in
      let e = iterate_inner n (parent_in Q v) i ∙ ap (iterate n (parent_in Q v)) (parent_of q i k a.0) in
      (ps, subst (λ (x : ℕ). Path v x ps) (sym e) b, omega arith)

  -- so a directory is met on no way up from the directory that it is in
  pub not_below : Tree P Q v → (q n : ℕ) → UsedIn v q → v.kind (v.child q) ≡ 2 → iterate n (parent_in Q v) (v.dir q) ≢ v.child q
  not_below T q n u k e =
      let d = F.dirs q u in
      let (qs, a) = T.leads (v.dir q) (omega arith) in
      let (ps, b, l) = up_shorter n (v.dir q) qs (single P Q v F (v.dir q) d) a in
      let same = path_same P Q v T (q ∷ qs) ps (v.child q) (single P Q v F (v.child q) k) ((u, refl), a) (subst (λ (x : ℕ). Path v x ps) e b) in
      omega (arith, ap length same)

  -- a file is on no path from a directory
  pub outside_file : (c i : ℕ) (qs : List ℕ) → v.kind c ≢ 2 → v.kind i ≡ 2 → Path v i qs → Avoids v c i qs
  outside_file c i [] n k a = λ e. n (ap v.kind (sym e) ∙ k)
  outside_file c i (q ∷ qs) n k a =
      ((λ e. n (ap v.kind (sym e) ∙ k)), outside_file c (v.dir q) qs n (F.dirs q a.0.0) a.1)
