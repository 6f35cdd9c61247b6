-- Handles through a list of requests: one that was given out stays so, and a removed one is never an object's again. Assumes nothing.
use mathlib.Core.Path.{◌≡◌, sym, ap, ◌∙◌}
use mathlib.Core.Logic.{by_cases, ⊎_elim}
use mathlib.Core.List.{List}
use Prim.Native.Nat.{ℕ, ◌≤◌, ◌<◌}
use native.Mathlib.Decide.{ℕ_discrete}
use native.Mathlib.Omega.{arith}
use Rattle.spec.specs.Image.{Store}
use Rattle.history.specs.Book.{Ledger, handle_bytes}
use Rattle.history.specs.Statement.{In, HasLine, IsRemoved}
use Rattle.history.proofs.Sum.{ind_yes, ind_no}
use Rattle.history.proofs.View.{LiveIn}
use Rattle.history.proofs.Tree.{live?}
use Rattle.history.proofs.Handles.{same_object_lem, same_generation_lem}
use Rattle.history.proofs.Issue.{issued, issued_small}
use Rattle.history.proofs.Seen.{view}
use Rattle.history.proofs.Inv.{Inv, Grew, tree}
use Rattle.history.proofs.Lines.{current_lined, lined_current}
use Rattle.history.proofs.Counts.{given_or}

module _ (σ p q r : ℕ) (s : Store) (L : Ledger) (I : Inv σ p q r s L) where
  pub small_live : (o : ℕ) → LiveIn (view s) o → (o < 4294967296) × ((view s).gen o < 4294967296) × (o < p)
  small_live o l =
      let T = tree σ p q r s L I in
      (omega (arith, T.flat.past o l, T.flat.few), omega (arith, I.issues.few o), T.flat.past o l)

  -- the object and the generation of a handle that was given out, but has no line
  pub removed_old : (g : List ℕ) → IsRemoved L g → (o : ℕ) × (k : ℕ) × (g ≡ handle_bytes σ o k) × (k < (view s).gen o) × (o < p) × (k < 4294967296)
  removed_old g (m, n) =
      let (o, k, e, l) = (I.issues.each g).0 m in
      let z = issued_small p σ (view s) L.given I.issues o k l in
      ⊎_elim
      (λ (x : LiveIn (view s) o × (k ≡ (view s).gen o)). let (y, a, b, c) = current_lined σ p q r s L I o x.0 in
      absurd (n ((view s).kind o) (y, a, b ∙ ap (handle_bytes σ o) (sym x.1) ∙ sym e, c)))
      (λ (x : k < (view s).gen o). (o, k, e, x, z.0, z.2))
      (given_or σ p q r s L I o k l)

-- ---- one request, and any list
module _ (σ p q r : ℕ) (s t : Store) (L M : Ledger) (I : Inv σ p q r s L) (J : Inv σ p q r t M) (G : Grew (view s) (view t)) where
  -- what was given out stays so
  more_issued : (i : ℕ) → issued (view s) i ≤ issued (view t) i
  more_issued i = by_cases (live? (view s) i)
      (λ v. by_cases (ℕ_discrete ((view t).gen i) ((view s).gen i))
      (λ e. omega (arith, ind_yes (live? (view s) i) v, ind_yes (live? (view t) i) (omega (arith, G.stays i v e))))
      (λ n. omega (arith, ind_yes (live? (view s) i) v, G.older i)))
      (λ v. omega (arith, ind_no (live? (view s) i) v, G.older i))

  pub given_stays_lem : (g : List ℕ) → In g L.given → In g M.given
  given_stays_lem g m = let (o, k, e, l) = (I.issues.each g).0 m in (J.issues.each g).1 (o, k, e, omega (arith, more_issued o))

  -- a removed handle never has a line again
  pub removed_stays : (g : List ℕ) → IsRemoved L g → (kind : ℕ) → HasLine M.book g kind → ⊥
  removed_stays g d kind x =
      let (o, k, e, l, b, c) = removed_old σ p q r s L I g d in
      let (i, v, a, f) = lined_current σ p q r t M J g kind x in
      let n = small_live σ p q r t M J i v in
      let io : o ≡ i = same_object_lem σ o k i ((view t).gen i) (omega (arith, (tree σ p q r s L I).flat.few)) n.0 (sym e ∙ a) in
      let ig : k ≡ (view t).gen i = same_generation_lem σ o k i ((view t).gen i) c n.1 (sym e ∙ a) in
      omega (arith, G.older o, ap (view t).gen io)

-- a handle with a line, and with one after further requests: its record is live with its generation and type in between
pub same_between : (σ p q r : ℕ) (s t u : Store) (L N : Ledger) → Inv σ p q r s L → Inv σ p q r u N
    → Grew (view s) (view t) → Grew (view t) (view u) → (o : ℕ) → LiveIn (view s) o → (j : ℕ) → HasLine N.book (handle_bytes σ o ((view s).gen o)) j
    → ((view t).gen o ≡ (view s).gen o) × ((view t).kind o ≡ (view s).kind o)
same_between σ p q r s t u L N I K G H o v j x =
    let (i, w, a, b) = lined_current σ p q r u N K (handle_bytes σ o ((view s).gen o)) j x in
    let m = small_live σ p q r s L I o v in
    let n = small_live σ p q r u N K i w in
    let io : o ≡ i = same_object_lem σ o ((view s).gen o) i ((view u).gen i) m.0 n.0 a in
    let ig : (view s).gen o ≡ (view u).gen i = same_generation_lem σ o ((view s).gen o) i ((view u).gen i) m.1 n.1 a in
    let e : (view t).gen o ≡ (view s).gen o = omega (arith, G.older o, H.older o, ap (view u).gen io) in
    (e, G.stays o v e)
