-- The three changes of the tree: an object gets a name, loses one, or one is moved. Assumes nothing.
use mathlib.Core.Path.{◌≡◌, sym, ap, ◌∙◌, subst}
use mathlib.Core.Logic.{◌≢◌, ◌⊎◌, by_cases, ⊎_elim}
use mathlib.Core.List.{List, [], ◌∷◌}
use Prim.Native.Nat.{ℕ, suc, ◌≤◌, ◌<◌}
use native.Mathlib.Decide.{ℕ_discrete}
use native.Mathlib.Omega.{arith}
use lib.ListN.{length}
use Rattle.spec.specs.Check.{most_names}
use Rattle.history.proofs.View.{View, LiveIn, UsedIn, NamesObject, namings_in, entries_at, Path, Avoids, SameRecord, SetName, SetObj}
use Rattle.history.proofs.Tree.{Tree, one_name_lem}

-- object o, which is free or has the type k, gets the name t in directory d by the free record q
pub record Named (P Q : ℕ) (v w : View) (o q k d : ℕ) (t : List ℕ) : Type 0 where
  pub obj : SetObj v w o k (v.gen o)
  pub nam : SetName v w q d o t
  pub in_objs : o < P
  pub in_names : q < Q
  pub was_blank : length (v.text q) ≡ 0
  pub not_root : o ≢ 0
  pub live : 0 < k
  pub same_type_lem : LiveIn v o → v.kind o ≡ k
  pub few : namings_in Q v o < most_names k
  pub some : 0 < length t
  pub parent : v.kind d ≡ 2
  pub absent : entries_at Q v d t ≡ 0

-- record q, which names object o, is free: the object is free with its last name, and otherwise stays
pub record Removed (Q : ℕ) (v w : View) (o q : ℕ) : Type 0 where
  pub other : (i : ℕ) → i ≢ o → (w.kind i ≡ v.kind i) × (w.gen i ≡ v.gen i)
  pub object : ((namings_in Q v o ≤ 1) × (w.kind o ≡ 0) × (w.gen o ≡ suc (v.gen o)))
      ⊎ ((1 < namings_in Q v o) × (w.kind o ≡ v.kind o) × (w.gen o ≡ v.gen o))
  pub nam : SetName v w q 0 0 []
  pub not_root : o ≢ 0
  pub named : NamesObject v q o
  pub empty : (p : ℕ) → UsedIn v p → v.dir p ≢ o

pub record Moved (P Q : ℕ) (v w : View) (q e : ℕ) (t : List ℕ) : Type 0 where
  pub kinds : (i : ℕ) → w.kind i ≡ v.kind i
  pub gens : (i : ℕ) → w.gen i ≡ v.gen i
  pub nam : SetName v w q e (v.child q) t
  pub used : UsedIn v q
  pub some : 0 < length t
  pub parent : v.kind e ≡ 2
  pub absent : entries_at Q v e t ≡ 0
  pub clear : (qs : List ℕ) → Path v e qs → Avoids v (v.child q) e qs

-- ---- what a new name leaves: the types and generations of live objects, and the used records
module _ (P Q : ℕ) (v w : View) (o q k d : ℕ) (t : List ℕ) (B : Named P Q v w o q k d t) where
  pub named_gens : (i : ℕ) → w.gen i ≡ v.gen i
  named_gens i = by_cases (ℕ_discrete i o) (λ e. ap w.gen e ∙ B.obj.gen ∙ ap v.gen (sym e)) (λ n. (B.obj.other i n).1)

  pub named_kinds : (i : ℕ) → LiveIn v i → w.kind i ≡ v.kind i
  named_kinds i l = by_cases (ℕ_discrete i o)
      (λ e. ap w.kind e ∙ B.obj.kind ∙ sym (B.same_type_lem (subst (LiveIn v) e l)) ∙ ap v.kind (sym e))
      (λ n. (B.obj.other i n).0)

  pub named_records : (p : ℕ) → UsedIn v p → SameRecord v w p
  named_records p u = B.nam.other p (λ e. omega (arith, B.was_blank, ap (λ (x : ℕ). length (v.text x)) e))

-- ---- what a removed name leaves: the objects of the other names
pub child_stays : (P Q : ℕ) (v w : View) (o q : ℕ) → Tree P Q v → Removed Q v w o q → (p : ℕ) → UsedIn v p → p ≢ q
    → (w.kind (v.child p) ≡ v.kind (v.child p)) × (w.gen (v.child p) ≡ v.gen (v.child p))
child_stays P Q v w o q T G p u n = by_cases (ℕ_discrete (v.child p) o)
    (λ e. ⊎_elim
    (λ x. absurd (n (one_name_lem P Q v T.flat o p q x.0 (u, e) G.named)))
    (λ x. (ap w.kind e ∙ x.1 ∙ ap v.kind (sym e), ap w.gen e ∙ x.2 ∙ ap v.gen (sym e)))
    G.object)
    (λ e. G.other (v.child p) e)

-- ---- a path that avoids c stays, where only the record that names c has changed
pub path_avoids : (v w : View) (c : ℕ) → ((p : ℕ) → UsedIn v p → v.child p ≢ c → SameRecord v w p)
    → (qs : List ℕ) (i : ℕ) → Path v i qs → Avoids v c i qs → Path w i qs
path_avoids v w c s [] i a x = a
path_avoids v w c s (q ∷ qs) i a x =
    let h = s q a.0.0 (λ e. x.0 (sym a.0.1 ∙ e)) in (
      (omega (arith, ap length h.text), h.child ∙ a.0.1),
      subst (λ (y : ℕ). Path w y qs) (sym h.dir) (path_avoids v w c s qs (v.dir q) a.1 x.1),
    )

pub avoid_empty : (v : View) (c : ℕ) → c ≢ 0 → ((p : ℕ) → UsedIn v p → v.dir p ≢ c) → (qs : List ℕ) (i : ℕ) → i ≢ c → Path v i qs → Avoids v c i qs
avoid_empty v c z b [] i n a = n
avoid_empty v c z b (q ∷ qs) i n a = (n, avoid_empty v c z b qs (v.dir q) (b q a.0.0) a.1)

-- a path in v is one in w, where every record that v uses is the same in w; and what it avoids in w it avoids in v
pub path_kept : (v w : View) (c : ℕ) → ((p : ℕ) → UsedIn v p → SameRecord v w p) → (qs : List ℕ) (i : ℕ) → Path v i qs
    → Path w i qs × (Avoids w c i qs → Avoids v c i qs)
path_kept v w c s [] i a = (a, λ x. x)
path_kept v w c s (q ∷ qs) i a =
    let h = s q a.0.0 in
    let r = path_kept v w c s qs (v.dir q) a.1 in (
      ((omega (arith, ap length h.text), h.child ∙ a.0.1), subst (λ (y : ℕ). Path w y qs) (sym h.dir) r.0),
      (λ x. (x.0, r.1 (subst (λ (y : ℕ). Avoids w c y qs) h.dir x.1))),
    )
