-- The pairs that are told after each step: which are members of the list. Assumes nothing.
use mathlib.Core.Path.{◌≡◌, refl, sym, ap, ◌∙◌, subst}
use mathlib.Core.Logic.{◌≢◌, ◌⊎◌, ⊎_elim}
use mathlib.Core.Bool.{Bool, true, false, cond}
use mathlib.Core.List.Memᴰ
use mathlib.Core.List.{List, [], ◌∷◌}
use Prim.Native.Nat.{ℕ}
use lib.Dec.{eqb}
use borrow.Author.Tests.{eqb-true, eqb-false, eq-eqb, ne_eqb}
use Rattle.spec.specs.Bytes.{same_bytes}
use Rattle.mount_spec.specs.Table.{Row}
use Rattle.laws.proofs.Bytes.{same_eq, same_yes}
use Rattle.laws.proofs.Count.{true_false, by_bool, and_both}
use Rattle.laws.proofs.Tests.{and_true, or_one}
use Rattle.history.specs.Statement.{In}
use Rattle.mount_history.specs.Told.{Pairs, pair_of, is_pair, is_told, add_told, strike_pair, strike_host}

-- ---- the test for a pair
pub pair_true : (host : ℕ) (path : List ℕ) (v : Row) → is_pair host path v ≡ true → v ≡ pair_of host path
pair_true host path v e =
    let (a, b) = and_both (eqb v.host host) (same_bytes v.path path) e in
    let h = eqb-true v.host host a in
    let p = same_eq v.path path b in
    λ i. record { host = h i; path = p i }

pub true_pair : (host : ℕ) (path : List ℕ) (v : Row) → v ≡ pair_of host path → is_pair host path v ≡ true
true_pair host path v e =
    and_true (eqb v.host host) (same_bytes v.path path) (eq-eqb v.host host (ap (λ (x : Row). x.host) e))
    (same_yes v.path path (ap (λ (x : Row). x.path) e))

-- ---- MNT
-- a pair that the test finds is a member; after the step the members are the pair and those before
told_in : (host : ℕ) (path : List ℕ) (m : Pairs) → is_told host path m ≡ true → In (pair_of host path) m
unfolding is_told
told_in host path [] e = true_false (sym e)
told_in host path (v ∷ vs) e =
    ⊎_elim (λ a. Memᴰ.head (sym (pair_true host path v a))) (λ a. Memᴰ.tail (told_in host path vs a))
    (or_one (is_pair host path v) (is_told host path vs) e)

module _ (host : ℕ) (path : List ℕ) (m : Pairs) (w : Row) where
  pub add_back : In w (add_told host path m) → (w ≡ pair_of host path) ⊎ In w m
  unfolding add_told
  add_back = from (is_told host path m)
    where
      from : (t : Bool) → In w (cond t m (pair_of host path ∷ m)) → (w ≡ pair_of host path) ⊎ In w m
      from true h = ◌⊎◌.inr h
      from false h = Memᴰ.cases_cons h

  pub add_on : In w m → In w (add_told host path m)
  unfolding add_told
  add_on h = from (is_told host path m)
    where
      from : (t : Bool) → In w (cond t m (pair_of host path ∷ m))
      from true = h
      from false = Memᴰ.tail h

pub add_new : (host : ℕ) (path : List ℕ) (m : Pairs) → In (pair_of host path) (add_told host path m)
unfolding add_told
add_new host path m = by_bool (is_told host path m) (λ e. rw e (told_in host path m e)) (λ e. rw e (Memᴰ.head refl))

-- ---- UMNT and UMNTALL: the pairs that fail a test
unfoldable sift : (Row → Bool) → Pairs → Pairs
sift p [] = []
sift p (v ∷ vs) = cond (p v) (sift p vs) (v ∷ sift p vs)

sift_back : (p : Row → Bool) (m : Pairs) (w : Row) → In w (sift p m) → In w m × (p w ≡ false)
unfolding sift
sift_back p [] w h = absurd (Memᴰ.not-nil h)
sift_back p (v ∷ vs) w h =
    by_bool (p v)
    (λ e. let (a, b) = sift_back p vs w (rw e at h) in (Memᴰ.tail a, b))
    (λ e. ⊎_elim (λ (z : w ≡ v). (Memᴰ.head z, ap p z ∙ e)) (λ (z : In w (sift p vs)). let (a, b) = sift_back p vs w z in (Memᴰ.tail a, b))
    (Memᴰ.cases_cons (rw e at h)))

sift_on : (p : Row → Bool) (m : Pairs) (w : Row) → In w m → p w ≡ false → In w (sift p m)
unfolding sift
sift_on p [] w h n = absurd (Memᴰ.not-nil h)
sift_on p (v ∷ vs) w h n =
    ⊎_elim
    (λ (z : w ≡ v). let e : p v ≡ false = ap p (sym z) ∙ n in rw e (Memᴰ.head z))
    (λ (z : In w vs). by_bool (p v) (λ e. rw e (sift_on p vs w z n)) (λ e. rw e (Memᴰ.tail (sift_on p vs w z n))))
    (Memᴰ.cases_cons h)

pair_sift : (host : ℕ) (path : List ℕ) (m : Pairs) → strike_pair host path m ≡ sift (is_pair host path) m
unfolding strike_pair sift
pair_sift host path [] = refl
pair_sift host path (v ∷ vs) = ap (λ (l : Pairs). cond (is_pair host path v) l (v ∷ l)) (pair_sift host path vs)

host_sift : (host : ℕ) (m : Pairs) → strike_host host m ≡ sift (λ v. eqb v.host host) m
unfolding strike_host sift
host_sift host [] = refl
host_sift host (v ∷ vs) = ap (λ (l : Pairs). cond (eqb v.host host) l (v ∷ l)) (host_sift host vs)

-- after UMNT the members are those before but the pair
module _ (host : ℕ) (path : List ℕ) (m : Pairs) (w : Row) where
  pub strike_back : In w (strike_pair host path m) → In w m × (w ≢ pair_of host path)
  strike_back h =
      let (a, b) = sift_back (is_pair host path) m w (subst (In w) (pair_sift host path m) h) in
      (a, λ z. true_false (sym (true_pair host path w z) ∙ b))

  pub strike_on : In w m → w ≢ pair_of host path → In w (strike_pair host path m)
  strike_on h d =
      subst (In w) (sym (pair_sift host path m))
      (sift_on (is_pair host path) m w h (by_bool (is_pair host path w) (λ e. absurd (d (pair_true host path w e))) (λ e. e)))

-- after UMNTALL they are those before that are not of the host
module _ (host : ℕ) (m : Pairs) (w : Row) where
  pub host_back : In w (strike_host host m) → In w m × (w.host ≢ host)
  host_back h =
      let (a, b) = sift_back (λ v. eqb v.host host) m w (subst (In w) (host_sift host m) h) in
      (a, eqb-false w.host host b)

  pub host_on : In w m → w.host ≢ host → In w (strike_host host m)
  host_on h d = subst (In w) (sym (host_sift host m)) (sift_on (λ v. eqb v.host host) m w h (ne_eqb w.host host d))
