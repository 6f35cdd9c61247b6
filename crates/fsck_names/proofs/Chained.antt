-- The chains of records with one hash, and the walk along one. Assumes nothing.
use mathlib.Core.Path.{◌≡◌, refl, sym, ap, ◌∙◌}
use mathlib.Core.Logic.{◌≢◌, by_cases, ⊎_elim}
use mathlib.Core.Bool.{Bool, true, false, ◌&&◌, ◌||◌, not}
use mathlib.Core.List.{List}
use Prim.Native.Nat.{ℕ, zero, suc, ◌+◌, ◌-◌, ◌≤◌, ◌<◌}
use native.Mathlib.Nat.{not-suc-le-zero}
use native.Mathlib.Decide.{ℕ_discrete}
use native.Mathlib.Numerals.{add-one}
use native.Mathlib.Omega.{arith}
use lib.Dec.{eqb}
use lib.ListN.{get_or, set, length-set}
use lib.Seq.{get_or-set_same, get_or-set_other}
use borrow.Author.Tests.{eqb-true, eq-eqb, ne_eqb}
use Rattle.kinds.specs.Numbers.{most_name_records}
use Rattle.spec.specs.Count.{count}
use Rattle.spec.specs.Image.{Store, names, name_at}
use Rattle.spec.specs.Room.{is_used_name, is_named}
use Rattle.spec.specs.Check.{good_name_record, is_distinct, records_pass}
use Rattle.laws.proofs.Bytes.{lt_or_le}
use Rattle.laws.proofs.Count.{by_bool, true_false, and_both, every_at}
use Rattle.laws.proofs.Unique.{one_passes}
use Rattle.laws.proofs.Valid.{Framed, UsedName}
use Rattle.fsck_objects.specs.Told.{Told}
use Rattle.fsck_objects.specs.Objects.{Blank}
use Rattle.fsck_objects.proofs.Passes.{told_true, told_false, fails_distinct}
use Rattle.fsck_names.specs.Distinct.{hash, last, is_same, New, Chains}
use Rattle.fsck_names.proofs.Joins.{used_passes, is_used}
use Rattle.fsck_names.proofs.Same.{alike, same_self, same_hash}

-- ---- the last record with a hash
module _ (s : Store) (h : ℕ) where
  pub last_most : (n : ℕ) → last s n h ≤ n
  unfolding last
  last_most zero = omega arith
  last_most (suc n) = by_bool (is_used_name s n && eqb (hash s n) h) (λ e. rw e (omega arith)) (λ e. rw e (omega (arith, last_most n)))

  -- no record from it on has the hash
  pub last_above : (n m : ℕ) → last s n h ≤ m → m < n → is_used_name s m ≡ true → hash s m ≡ h → ⊥
  unfolding last
  last_above zero m l k u e = not-suc-le-zero k
  last_above (suc n) m l k u e =
      by_bool (is_used_name s n && eqb (hash s n) h)
      (λ f. let w : suc n ≤ m = rw f at l in absurd (omega arith))
      (λ f. let w : last s n h ≤ m = rw f at l in
      by_cases (ℕ_discrete m n)
      (λ (q : m ≡ n). let z : is_used_name s m && eqb (hash s m) h ≡ true = rw (u, eq-eqb (hash s m) h e) in true_false (sym (rw q at z) ∙ f))
      (λ (q : m ≢ n). last_above n m w (omega arith) u e))

  -- it is used and has the hash
  pub last_at : (n k : ℕ) → last s n h ≡ suc k → (is_used_name s k ≡ true) × (hash s k ≡ h)
  unfolding last
  last_at zero k e = absurd (omega arith)
  last_at (suc n) k e =
      by_bool (is_used_name s n && eqb (hash s n) h)
      (λ f. let w : suc n ≡ suc k = rw f at e in
      let q : n ≡ k = omega arith in
      let z = and_both (is_used_name s n) (eqb (hash s n) h) f in
      rw (← q) (z.0, eqb-true (hash s n) h z.1))
      (λ f. last_at n k (rw f at e))

one_more : (k : ℕ) → (k ≡ 0 → ⊥) → k ≡ suc (k - 1)
one_more zero z = absurd (z refl)
one_more (suc k) z = omega arith

-- ---- one test more, where the records fail if it is true
told_or : {facts more : Type 0} {s : Store} (t u : Bool) → Told (not t) s facts → (facts → u ≡ false → more) → (u ≡ true → records_pass s ≡ false)
    → Told (not (t || u)) s more
told_or true u a f g = told_false (a.no refl)
told_or false true a f g = told_false (g refl)
told_or false false a f g = told_true (f (a.yes refl) refl)

-- ---- the walk from the last record with the hash of record n
pub record Walked (s : Store) (n h : ℕ) (found : Bool) (k : ℕ) : Type 0 where
  pub most : k ≤ n
  pub told : Told (not found) s ((m : ℕ) → k ≤ m → m < n → is_same s n m ≡ false)
  pub at : (k ≡ 0 → ⊥) → (is_used_name s (k - 1) ≡ true) × (hash s (k - 1) ≡ h)

module _ (s : Store) (t : Framed s) (n h : ℕ) (w : New s n h) where
  pub used_before : (m : ℕ) → m < n → is_used_name s m ≡ true → UsedName s m
  used_before m l u = used_passes s m t (omega (arith, w.below)) u (every_at (good_name_record s) n m w.before l)

  -- a record with another hash, or free, is another one
  other : (m : ℕ) → m < n → (is_used_name s m ≡ true → hash s m ≡ h → ⊥) → is_same s n m ≡ false
  other m l f =
      by_bool (is_same s n m)
      (λ e. by_bool (is_used_name s m)
      (λ u. absurd (f u (same_hash s n m w.itself (used_before m l u) e ∙ sym w.hashed)))
      (λ u. true_false (sym (alike s n m e).used ∙ u)))
      (λ e. e)

  pub walk_start : (k : ℕ) → k ≡ last s n h → Walked s n h false k
  walk_start k e =
      record {
        most = omega (arith, last_most s h n);
        told = told_true (λ m l q. other m q (λ u v. last_above s h n m (rw e at l) q u v));
        at = λ z. last_at s h n (k - 1) (sym e ∙ one_more k z);
      }

  pub walk_less : (i k : ℕ) → (i ≡ 0 → ⊥) → k ≡ last s (i - 1) (hash s (i - 1)) → k < i
  walk_less i k z e = let a = last_most s (hash s (i - 1)) (i - 1) in let b = one_more i z in omega arith

  -- a record before n that is the same
  walk_same : (m : ℕ) → m < n → is_same s n m ≡ true → records_pass s ≡ false
  unfolding is_distinct
  walk_same m l e =
      let p = is_named s (name_at s n).directory (name_at s n).text in
      fails_distinct s n w.below (rw (is_used s n w.itself) (ne_eqb (count (names s) p) 1 (λ q.
      let d = one_passes (names s) p m n (omega arith) (omega (arith, w.below)) w.below e (same_self s n w.itself) in absurd (omega arith))))

  walk_on : (i j k : ℕ) (found : Bool) → i ≡ suc j → hash s j ≡ h → Walked s n h found i → k ≡ last s j (hash s j) → Walked s n h (found || is_same s n j) k
  walk_on i j k found q g a e =
      let r : k ≡ last s j h = e ∙ ap (last s j) g in
      let b = last_most s h j in
      record {
        most = omega (arith, a.most);
        told = told_or found (is_same s n j) a.told
            (λ c f m l x. ⊎_elim
            (λ (v : m < j). other m x (λ u y. last_above s h j m (rw r at l) v u y))
            (λ (v : j ≤ m). by_cases (ℕ_discrete m j) (λ (y : m ≡ j). rw y f) (λ (y : m ≢ j). c m (omega arith) x))
            (lt_or_le m j))
            (walk_same j (omega (arith, a.most)));
        at = λ z. last_at s h j (k - 1) (sym r ∙ one_more k z);
      }

  pub walk_step : (i k : ℕ) (found : Bool) → (i ≡ 0 → ⊥) → Walked s n h found i → k ≡ last s (i - 1) (hash s (i - 1))
      → Walked s n h (found || is_same s n (i - 1)) k
  walk_step i k found z a e = walk_on i (i - 1) k found (one_more i z) (a.at z).1 a e

-- ---- the chains before the first record, after a free one and after a used one
pub chains_none : (s : Store) (head next : List ℕ) → Blank 256 head → Blank most_name_records next → Chains s 0 head next
unfolding last
chains_none s head next a b =
    record { long_head = a.long; long_next = b.long; heads = λ h l. a.zero h; nexts = λ m l u. absurd (not-suc-le-zero l) }

module _ (s : Store) (n : ℕ) (head next : List ℕ) (a : Chains s n head next) where
  last_free : (h : ℕ) → is_used_name s n ≡ false → last s (n + 1) h ≡ last s n h
  unfolding last
  last_free h u = rw (add-one, u)

  last_used : is_used_name s n ≡ true → last s (n + 1) (hash s n) ≡ n + 1
  unfolding last
  last_used u = rw (add-one, u, eq-eqb (hash s n) (hash s n) refl)

  last_other : (h : ℕ) → h ≢ hash s n → is_used_name s n ≡ true → last s (n + 1) h ≡ last s n h
  unfolding last
  last_other h d u = rw (add-one, u, ne_eqb (hash s n) h (λ e. d (sym e)))

  pub chains_free : is_used_name s n ≡ false → Chains s (n + 1) head next
  chains_free u =
      record {
        long_head = a.long_head;
        long_next = a.long_next;
        heads = λ h l. a.heads h l ∙ sym (last_free h u);
        nexts = λ m l v. by_cases (ℕ_discrete m n) (λ (e : m ≡ n). true_false (sym (rw e at v) ∙ u)) (λ (d : m ≢ n). a.nexts m (omega arith) v);
      }

  pub chains_used : (h : ℕ) → h ≡ hash s n → h < 256 → n < most_name_records → is_used_name s n ≡ true
      → Chains s (n + 1) (set head h (n + 1)) (set next n (get_or head h 0))
  chains_used h e l k u =
      record {
        long_head = simp length-set a.long_head;
        long_next = simp length-set a.long_next;
        heads = λ i q. by_cases (ℕ_discrete i h)
            (λ (w : i ≡ h). rw w (get_or-set_same head h (n + 1) 0 (omega (arith, a.long_head)) ∙ sym (rw e (last_used u))))
            (λ (w : i ≢ h). get_or-set_other head h i (n + 1) 0 w ∙ a.heads i q ∙ sym (last_other i (λ x. w (x ∙ sym e)) u));
        nexts = λ m q v. by_cases (ℕ_discrete m n)
            (λ (w : m ≡ n). rw w (get_or-set_same next n (get_or head h 0) 0 (omega (arith, a.long_next)) ∙ a.heads h l ∙ ap (last s n) e))
            (λ (w : m ≢ n). get_or-set_other next n m (get_or head h 0) 0 w ∙ a.nexts m (omega arith) v);
      }
