-- What a store holds, as functions of an object's and of a name record's number: the only thing that the tree, the book and the handles are
-- said of. Assumes nothing.
use mathlib.Core.Path.{◌≡◌, sym, ap, ◌∙◌}
use mathlib.Core.Logic.Dec
use mathlib.Core.Logic.{◌≢◌, by_cases}
use mathlib.Core.List.{List, [], ◌∷◌}
use Prim.Native.Nat.{ℕ, ◌+◌, ◌≤◌, ◌<◌}
use native.Mathlib.Decide.{ℕ_discrete, dec_lt}
use native.Mathlib.Omega.{arith}
use lib.ListN.{length}
use Rattle.history.proofs.Lists.{text?}
use Rattle.spec.specs.Count.{sum}
use Rattle.laws.proofs.Count.{sum_upd, sum_ext, sum_at}
use Rattle.laws.proofs.Unique.{sum_two}
use Rattle.history.proofs.Sum.{ind, ind_same, ind_yes, ind_true, sum_find}

pub record View : Type 0 where
  pub kind : ℕ → ℕ
  pub gen : ℕ → ℕ
  pub dir : ℕ → ℕ
  pub child : ℕ → ℕ
  pub text : ℕ → List ℕ

abbrev pub LiveIn : View → ℕ → Type 0
LiveIn v i = 0 < v.kind i

abbrev pub UsedIn : View → ℕ → Type 0
UsedIn v q = 0 < length (v.text q)

-- record q names object i
abbrev pub NamesObject : View → ℕ → ℕ → Type 0
NamesObject v q i = UsedIn v q × (v.child q ≡ i)

-- record q is used, in directory d, with the name t
abbrev pub At : View → ℕ → ℕ → List ℕ → Type 0
At v q d t = UsedIn v q × (v.dir q ≡ d) × (v.text q ≡ t)

unfoldable pub names? : (v : View) (q i : ℕ) → Dec (NamesObject v q i)
names? v q i = Dec.and (dec_lt 0 (length (v.text q))) (ℕ_discrete (v.child q) i)

unfoldable pub at? : (v : View) (q d : ℕ) (t : List ℕ) → Dec (At v q d t)
at? v q d t = go (dec_lt 0 (length (v.text q))) (ℕ_discrete (v.dir q) d) (text? (v.text q) t)
  where
    go : Dec (UsedIn v q) → Dec (v.dir q ≡ d) → Dec (v.text q ≡ t) → Dec (At v q d t)
    go (yes a) (yes b) (yes c) = yes (a, b, c)
    go (no a) b c = no (λ h. a h.0)
    go (yes a) (no b) c = no (λ h. b h.1)
    go (yes a) (yes b) (no c) = no (λ h. c h.2)

-- how many records name object i; how many are in directory d under t
abbrev pub namings_in : ℕ → View → ℕ → ℕ
namings_in Q v i = sum Q (λ q. ind (names? v q i))

abbrev pub entries_at : ℕ → View → ℕ → List ℕ → ℕ
entries_at Q v d t = sum Q (λ q. ind (at? v q d t))

-- the records qs lead from object i up to the root
abbrev pub Path : View → ℕ → List ℕ → Type 0
Path v i [] = i ≡ 0
Path v i (q ∷ qs) = NamesObject v q i × Path v (v.dir q) qs

-- object c is not on the path from i up the records qs
abbrev pub Avoids : View → ℕ → ℕ → List ℕ → Type 0
Avoids v c i [] = i ≢ c
Avoids v c i (q ∷ qs) = (i ≢ c) × Avoids v c (v.dir q) qs

-- ---- what a change leaves alone

pub record SameRecord (v w : View) (p : ℕ) : Type 0 where
  pub dir : w.dir p ≡ v.dir p
  pub child : w.child p ≡ v.child p
  pub text : w.text p ≡ v.text p

-- w is v with record q as given
pub record SetName (v w : View) (q d c : ℕ) (t : List ℕ) : Type 0 where
  pub dir : w.dir q ≡ d
  pub child : w.child q ≡ c
  pub text : w.text q ≡ t
  pub other : (p : ℕ) → p ≢ q → SameRecord v w p

pub record SetObj (v w : View) (o k g : ℕ) : Type 0 where
  pub kind : w.kind o ≡ k
  pub gen : w.gen o ≡ g
  pub other : (i : ℕ) → i ≢ o → (w.kind i ≡ v.kind i) × (w.gen i ≡ v.gen i)

-- ---- the counts after a change of one name record

same_names : (v w : View) (p i : ℕ) → SameRecord v w p → ind (names? w p i) ≡ ind (names? v p i)
same_names v w p i s = ind_same (names? w p i) (names? v p i)
    (λ h. (omega (arith, ap length s.text), sym s.child ∙ h.1))
    (λ h. (omega (arith, ap length s.text), s.child ∙ h.1))

same_at : (v w : View) (p d : ℕ) (t : List ℕ) → SameRecord v w p → ind (at? w p d t) ≡ ind (at? v p d t)
same_at v w p d t s = ind_same (at? w p d t) (at? v p d t)
    (λ h. (omega (arith, ap length s.text), sym s.dir ∙ h.1, sym s.text ∙ h.2))
    (λ h. (omega (arith, ap length s.text), s.dir ∙ h.1, s.text ∙ h.2))

-- where every record says the same
module _ (Q : ℕ) (v w : View) (s : (p : ℕ) → SameRecord v w p) where
  pub namings_kept : (i : ℕ) → namings_in Q w i ≡ namings_in Q v i
  namings_kept i = sum_ext Q (λ p. ind (names? w p i)) (λ p. ind (names? v p i)) (λ p l. same_names v w p i (s p))

  pub entries_kept : (d : ℕ) (t : List ℕ) → entries_at Q w d t ≡ entries_at Q v d t
  entries_kept d t = sum_ext Q (λ p. ind (at? w p d t)) (λ p. ind (at? v p d t)) (λ p l. same_at v w p d t (s p))

module _ (Q : ℕ) (v w : View) (q d c : ℕ) (t : List ℕ) (s : SetName v w q d c t) (l : q < Q) where
  pub namings_set : (i : ℕ) → namings_in Q w i + ind (names? v q i) ≡ namings_in Q v i + ind (names? w q i)
  namings_set i = sum_upd Q q (λ p. ind (names? v p i)) (λ p. ind (names? w p i)) l (λ p n. same_names v w p i (s.other p n))

  pub entries_set : (e : ℕ) (u : List ℕ) → entries_at Q w e u + ind (at? v q e u) ≡ entries_at Q v e u + ind (at? w q e u)
  entries_set e u = sum_upd Q q (λ p. ind (at? v p e u)) (λ p. ind (at? w p e u)) l (λ p n. same_at v w p e u (s.other p n))

-- ---- what a count says

module _ (Q : ℕ) (v : View) where
  pub named_by : (i : ℕ) → 0 < namings_in Q v i → (q : ℕ) × (q < Q) × NamesObject v q i
  named_by i h = let r = sum_find Q (λ q. ind (names? v q i)) h in (r.0, r.1, ind_true (names? v r.0 i) r.2)

  pub not_named : (i q : ℕ) → namings_in Q v i ≡ 0 → q < Q → NamesObject v q i → ⊥
  not_named i q h l n = omega (arith, sum_at Q q (λ q. ind (names? v q i)) l, ind_yes (names? v q i) n)

  pub named_once : (i p q : ℕ) → namings_in Q v i ≤ 1 → p < Q → q < Q → NamesObject v p i → NamesObject v q i → p ≡ q
  named_once i p q h l k a b = by_cases (ℕ_discrete p q) (λ e. e) (λ x. absurd (omega
      (arith, sum_two Q p q (λ q. ind (names? v q i)) l k x, ind_yes (names? v p i) a, ind_yes (names? v q i) b)))

  pub entry_once : (d : ℕ) (t : List ℕ) (p q : ℕ) → entries_at Q v d t ≤ 1 → p < Q → q < Q → At v p d t → At v q d t → p ≡ q
  entry_once d t p q h l k a b = by_cases (ℕ_discrete p q) (λ e. e) (λ x. absurd (omega
      (arith, sum_two Q p q (λ q. ind (at? v q d t)) l k x, ind_yes (at? v p d t) a, ind_yes (at? v q d t) b)))

  pub no_entry : (d : ℕ) (t : List ℕ) (q : ℕ) → entries_at Q v d t ≡ 0 → q < Q → At v q d t → ⊥
  no_entry d t q h l a = omega (arith, sum_at Q q (λ q. ind (at? v q d t)) l, ind_yes (at? v q d t) a)

  pub entry_by : (d : ℕ) (t : List ℕ) → 0 < entries_at Q v d t → (q : ℕ) × (q < Q) × At v q d t
  entry_by d t h = let r = sum_find Q (λ q. ind (at? v q d t)) h in (r.0, r.1, ind_true (at? v r.0 d t) r.2)
