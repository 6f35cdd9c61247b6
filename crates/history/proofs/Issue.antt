-- Handles issued: object i has had one for each generation up to its own, its own only while it is live. Assumes nothing.
use mathlib.Core.Path.{◌≡◌, refl, ap, ◌∙◌}
use mathlib.Core.Logic.{◌≢◌, ◌↔◌, by_cases, ⊎_elim}
use mathlib.Core.List.Memᴰ
use mathlib.Core.List.{List, ◌∷◌, Memᴰ}
use Prim.Native.Nat.{ℕ, suc, ◌+◌, ◌≤◌, ◌<◌}
use native.Mathlib.Decide.{ℕ_discrete, dec_lt}
use native.Mathlib.Omega.{arith}
use Rattle.kinds.specs.Numbers.{most_objects, spent_generation}
use Rattle.history.specs.Book.{handle_bytes}
use Rattle.history.proofs.Sum.{ind, ind_same, ind_yes, ind_no}
use Rattle.history.proofs.View.{View, LiveIn}
use Rattle.history.proofs.Tree.{Tree, live?}
use Rattle.history.proofs.Change.{Named, Removed}
use Rattle.history.proofs.Handles.{same_object_lem, same_generation_lem}
use Rattle.history.proofs.Agree.{handle_in}

-- how many handles object i has had
abbrev pub issued : View → ℕ → ℕ
issued v i = v.gen i + ind (live? v i)

-- h is a handle that an object has had
abbrev pub Issued : ℕ → View → List ℕ → Type 0
Issued σ v h = (o : ℕ) × (g : ℕ) × (h ≡ handle_bytes σ o g) × (g < issued v o)

-- h is the handle of a live object
abbrev pub Current : ℕ → View → List ℕ → Type 0
Current σ v h = (o : ℕ) × LiveIn v o × (h ≡ handle_in σ v o)

pub record Issues (P σ : ℕ) (v : View) (given : List (List ℕ)) : Type 0 where
  pub small : P ≤ most_objects
  pub each : (h : List ℕ) → Memᴰ h given ↔ Issued σ v h
  pub few : (i : ℕ) → issued v i ≤ spent_generation
  pub past : (i : ℕ) → P ≤ i → issued v i ≡ 0

-- no count has changed
pub issues_same : (P σ : ℕ) (v w : View) (given : List (List ℕ)) → ((i : ℕ) → issued w i ≡ issued v i) → Issues P σ v given → Issues P σ w given
issues_same P σ v w given s A =
    record {
      small = A.small;
      each = λ h. (
        (λ m. let (o, g, e, l) = (A.each h).0 m in (o, g, e, omega (arith, s o))),
        (λ x. let (o, g, e, l) = x in (A.each h).1 (o, g, e, omega (arith, s o))),
      );
      few = λ i. omega (arith, s i, A.few i);
      past = λ i l. s i ∙ A.past i l;
    }

pub live_same : (v w : View) (i : ℕ) → w.kind i ≡ v.kind i → ind (live? w i) ≡ ind (live? v i)
live_same v w i e = ind_same (live? w i) (live? v i) (λ h. omega arith) (λ h. omega arith)

-- types and generations stay
pub kept_issues : (P σ : ℕ) (v w : View) (given : List (List ℕ)) → ((i : ℕ) → (w.kind i ≡ v.kind i) × (w.gen i ≡ v.gen i)) → Issues P σ v given
    → Issues P σ w given
kept_issues P σ v w given k = issues_same P σ v w given (λ i. omega (arith, (k i).1, live_same v w i (k i).0))

-- a name is removed
pub removed_issues : (P Q σ : ℕ) (v w : View) (o q : ℕ) (given : List (List ℕ)) → Tree P Q v → Removed Q v w o q → Issues P σ v given
    → Issues P σ w given
removed_issues P Q σ v w o q given T N = issues_same P σ v w given (λ i. by_cases (ℕ_discrete i o)
    (λ e. rw e (⊎_elim
    (λ x. omega (
      arith,
      x.2,
      ind_no (live? w o) (λ l. omega (arith, x.1)),
      ind_yes (live? v o) (omega (arith, T.flat.ends q N.named.0, ap v.kind N.named.1)),
    ))
    (λ x. omega (arith, x.2, live_same v w o x.1))
    N.object))
    (λ n. let x = N.other i n in omega (arith, x.1, live_same v w i x.0)))

-- the object of an issued handle is in range, and so is its generation
pub issued_small : (P σ : ℕ) (v : View) (given : List (List ℕ)) → Issues P σ v given → (o g : ℕ) → g < issued v o
    → (o < P) × (o < 4294967296) × (g < 4294967296)
issued_small P σ v given A o g l =
    let k : o < P = by_cases (dec_lt o P) (λ x. x) (λ n. absurd (omega (arith, A.past o (omega arith)))) in
    (k, omega (arith, A.small), omega (arith, A.few o))

-- the handle that a free object gets was never given out
pub fresh : (P σ : ℕ) (v : View) (given : List (List ℕ)) → Issues P σ v given → (o : ℕ) → o < P → v.kind o ≡ 0 → Memᴰ (handle_in σ v o) given → ⊥
fresh P σ v given A o below z m =
    let (i, g, e, l) = (A.each (handle_in σ v o)).0 m in
    let b = issued_small P σ v given A i g l in
    let x : o ≡ i = same_object_lem σ o (v.gen o) i g (omega (arith, A.small)) b.1 e in
    let y : v.gen o ≡ g = same_generation_lem σ o (v.gen o) i g (omega (arith, A.few o)) b.2 e in
    omega (arith, ind_no (live? v o) (λ k. omega (arith, z)), ap (issued v) x)

-- a free object gets its first name
module _ (P Q σ : ℕ) (v w : View) (o q k d : ℕ) (t : List ℕ) (given : List (List ℕ)) (B : Named P Q v w o q k d t) (was_free : v.kind o ≡ 0)
    (low : v.gen o < spent_generation) (A : Issues P σ v given) where
  one_more : issued w o ≡ suc (v.gen o)
  one_more = omega (arith, B.obj.gen, ind_yes (live? w o) (omega (arith, B.obj.kind, B.live)))

  none_yet : issued v o ≡ v.gen o
  none_yet = omega (arith, ind_no (live? v o) (λ l. omega (arith, was_free)))

  others : (i : ℕ) → i ≢ o → issued w i ≡ issued v i
  others i n = let x = B.obj.other i n in omega (arith, x.1, live_same v w i x.0)

  pub created_issues : Issues P σ w (handle_in σ v o ∷ given)
  created_issues = record {
    small = A.small;
    each = λ h. (
      (λ m. ⊎_elim
          (λ (e : h ≡ handle_in σ v o). (o, v.gen o, e, omega (arith, one_more)))
          (λ (x : Memᴰ h given). let (i, g, e, l) = (A.each h).0 x in (
            i,
            g,
            e,
            by_cases (ℕ_discrete i o)
                (λ z. omega (arith, one_more, none_yet, ap (issued w) z, ap (issued v) z))
                (λ n. omega (arith, others i n)),
          ))
          (Memᴰ.cases_cons m)),
      (λ x. let (i, g, e, l) = x in
          by_cases (ℕ_discrete i o)
          (λ z. by_cases (ℕ_discrete g (v.gen o))
          (λ y. Memᴰ.cast (e ∙ (λ j. handle_bytes σ (z j) (y j))) (Memᴰ.head refl))
          (λ y. Memᴰ.tail ((A.each h).1 (i, g, e, omega (arith, one_more, none_yet, ap (issued w) z, ap (issued v) z)))))
          (λ n. Memᴰ.tail ((A.each h).1 (i, g, e, omega (arith, others i n))))),
    );
    few = λ i. by_cases (ℕ_discrete i o) (λ e. omega (arith, ap (issued w) e, one_more, low)) (λ n. omega (arith, others i n, A.few i));
    past = λ i l. by_cases (ℕ_discrete i o) (λ e. absurd (omega (arith, B.in_objs))) (λ n. others i n ∙ A.past i l);
  }
