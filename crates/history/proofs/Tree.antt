-- The tree: every live object but the root is named as often as its type allows, and the records that name it lead up to the root. Assumes nothing.
use mathlib.Core.Path.{◌≡◌, refl, ap, subst}
use mathlib.Core.Logic.{◌≢◌, by_cases}
use mathlib.Core.List.{List, [], ◌∷◌}
use Prim.Native.Nat.{ℕ, zero, suc, ◌≤◌, ◌<◌}
use native.Mathlib.Decide.{ℕ_discrete, dec_lt}
use native.Mathlib.Omega.{arith}
use lib.ListN.{length, drop, length-drop}
use Rattle.kinds.specs.Numbers.{most_objects}
use Rattle.spec.specs.Check.{most_names}
use Rattle.spec.specs.Count.{sum}
use Rattle.laws.proofs.Count.{sum_zero}
use Rattle.history.proofs.Sum.{ind, ind_yes, ind_no, ind_le, pigeon}
use Rattle.history.proofs.View.{View, LiveIn, UsedIn, NamesObject, At, names?, namings_in, entries_at, Path, not_named, named_once, entry_once}

pub record Flat (P Q : ℕ) (v : View) : Type 0 where
  pub few : P ≤ most_objects
  pub root : v.kind 0 ≡ 2
  pub past : (i : ℕ) → LiveIn v i → i < P
  pub rows : (q : ℕ) → UsedIn v q → q < Q
  pub dirs : (q : ℕ) → UsedIn v q → v.kind (v.dir q) ≡ 2
  pub ends : (q : ℕ) → UsedIn v q → LiveIn v (v.child q)
  pub never : namings_in Q v 0 ≡ 0
  pub once : (i : ℕ) → i ≢ 0 → LiveIn v i → (0 < namings_in Q v i) × (namings_in Q v i ≤ most_names (v.kind i))
  pub apart : (d : ℕ) (t : List ℕ) → entries_at Q v d t ≤ 1

pub record Tree (P Q : ℕ) (v : View) : Type 0 where
  pub flat : Flat P Q v
  pub leads : (i : ℕ) → LiveIn v i → (qs : List ℕ) × Path v i qs

unfoldable pub live? : (v : View) (i : ℕ) → Dec (LiveIn v i)
live? v i = dec_lt 0 (v.kind i)

-- how many objects are live
abbrev pub living : ℕ → View → ℕ
living P v = sum P (λ i. ind (live? v i))

pub live_bound : (P : ℕ) (v : View) → living P v ≤ P
unfolding sum
live_bound zero v = omega arith
live_bound (suc n) v = omega (arith, live_bound n v, ind_le (live? v n))

-- the object k steps up from i
abbrev pub above : View → ℕ → List ℕ → ℕ → ℕ
above v i qs zero = i
above v i [] (suc k) = i
above v i (q ∷ qs) (suc k) = above v (v.dir q) qs k

module _ (P Q : ℕ) (v : View) (F : Flat P Q v) where
  -- a directory has at most one name
  pub single : (i : ℕ) → v.kind i ≡ 2 → namings_in Q v i ≤ 1
  single i k = by_cases (ℕ_discrete i 0)
      (λ e. omega (arith, F.never, ap (namings_in Q v) e))
      (λ n. omega (arith, F.once i n (omega arith), ap most_names k))

  -- a free object has no name
  pub no_name : (i : ℕ) → v.kind i ≡ 0 → namings_in Q v i ≡ 0
  no_name i z = sum_zero Q (λ p. ind (names? v p i)) (λ p l. ind_no (names? v p i) (λ h. omega (arith, F.ends p h.0, ap v.kind h.1)))

  pub one_name_lem : (i p q : ℕ) → namings_in Q v i ≤ 1 → NamesObject v p i → NamesObject v q i → p ≡ q
  one_name_lem i p q n a b = named_once Q v i p q n (F.rows p a.0) (F.rows q b.0) a b

  pub one_entry : (d : ℕ) (t : List ℕ) (p q : ℕ) → At v p d t → At v q d t → p ≡ q
  one_entry d t p q a b = entry_once Q v d t p q (F.apart d t) (F.rows p a.0) (F.rows q b.0) a b

module _ (P Q : ℕ) (v : View) (T : Tree P Q v) where
  -- one path
  pub path_same : (qs ps : List ℕ) (i : ℕ) → namings_in Q v i ≤ 1 → Path v i qs → Path v i ps → qs ≡ ps
  path_same [] [] i k a b = refl
  path_same [] (p ∷ ps) i k a b = absurd (not_named Q v 0 p T.flat.never (T.flat.rows p b.0.0) (b.0.0, cc))
  path_same (q ∷ qs) [] i k a b = absurd (not_named Q v 0 q T.flat.never (T.flat.rows q a.0.0) (a.0.0, cc))
  path_same (q ∷ qs) (p ∷ ps) i k a b =
      let e : q ≡ p = one_name_lem P Q v T.flat i q p k a.0 b.0 in
      let r : qs ≡ ps = path_same qs ps (v.dir p) (single P Q v T.flat (v.dir p) (T.flat.dirs p b.0.0))
      (subst (λ (x : ℕ). Path v (v.dir x) qs) e a.1) b.1 in
      cc

  pub path_live : (qs : List ℕ) (i : ℕ) → Path v i qs → LiveIn v i
  path_live [] i a = omega (arith, ap v.kind a, T.flat.root)
  path_live (q ∷ qs) i a = omega (arith, ap v.kind a.0.1, T.flat.ends q a.0.0)

  pub path_above : (qs : List ℕ) (i k : ℕ) → k ≤ length qs → Path v i qs → Path v (above v i qs k) (drop k qs)
  path_above qs i zero l a = a
  path_above [] i (suc k) l a = absurd (omega arith)
  path_above (q ∷ qs) i (suc k) l a = path_above qs (v.dir q) k (omega arith) a.1

  -- all but the first are directories
  path_directory : (qs : List ℕ) (i k : ℕ) → 0 < k → k ≤ length qs → Path v i qs → v.kind (above v i qs k) ≡ 2
  path_directory qs i zero z l a = absurd (omega arith)
  path_directory [] i (suc k) z l a = absurd (omega arith)
  path_directory (q ∷ qs) i (suc zero) z l a = T.flat.dirs q a.0.0
  path_directory (q ∷ qs) i (suc (suc k)) z l a = path_directory qs (v.dir q) (suc k) (omega arith) (omega arith) a.1

  -- a path has fewer steps than there are live objects
  pub path_short : (qs : List ℕ) (i : ℕ) → Path v i qs → length qs < living P v
  path_short qs i a = pigeon (suc (length qs)) P (λ j. ind (live? v j)) (above v i qs)
      (λ j l. let c = path_above qs i j (omega arith) a in let x = path_live (drop j qs) (above v i qs j) c in
      (T.flat.past (above v i qs j) x, omega (arith, ind_yes (live? v (above v i qs j)) x)))
      (λ j k l m e.
      let c = path_above qs i j (omega arith) a in
      let d = path_above qs i k (omega arith) a in
      let f : Path v (above v i qs k) (drop j qs) = subst (λ (x : ℕ). Path v x (drop j qs)) e c in
      omega (
        arith,
        ap length (path_same (drop j qs) (drop k qs) (above v i qs k)
            (single P Q v T.flat (above v i qs k) (path_directory qs i k (omega arith) (omega arith) a)) f d),
        length-drop j qs,
        length-drop k qs,
      ))
