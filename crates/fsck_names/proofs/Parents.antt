-- The map of parents and the map of links: how often an object is named. Assumes nothing.
use mathlib.Core.Path.{◌≡◌, refl, sym, ap, ◌∙◌}
use mathlib.Core.Logic.{◌≢◌, by_cases}
use mathlib.Core.Bool.{Bool, true, false, not, and-false, or-true}
use mathlib.Core.List.{List}
use mathlib.Core.Option.{Option, some, none}
use Prim.Native.Nat.{ℕ, ◌+◌, ◌-◌, ◌≤◌, ◌<◌}
use native.Mathlib.Decide.{ℕ_discrete}
use native.Mathlib.Omega.{arith}
use lib.Dec.{eqb, leb, ltb}
use lib.ListN.{length, get_or, set, length-set}
use lib.Seq.{get_or-set_same, get_or-set_other}
use borrow.Author.Tests.{eqb-true, eq-eqb, ne_eqb, lt-leb, le-leb, ltb-true, ltb-false}
use Rattle.kinds.specs.Numbers.{REGULAR, most_objects, most_links}
use Rattle.spec.specs.Count.{bit, sum, count, passing, lowest}
use Rattle.spec.specs.Image.{Store, objects, names, object_at, name_at}
use Rattle.spec.specs.Room.{is_live, is_used_name, is_naming, namings, directory_of, parent}
use Rattle.spec.specs.Check.{good_name_record, most_names, good_namings, records_pass}
use Rattle.laws.proofs.Count.{by_bool, true_false, and_both, sum_more, sum_at, sum_zero, sum_fewer, passing_miss, lowest_hit, lowest_stays, lowest_none}
use Rattle.laws.proofs.Count.{lowest_passes, Passes}
use Rattle.laws.proofs.Valid.{Framed, UsedName, true_live}
use Rattle.fsck_objects.specs.Objects.{Blank}
use Rattle.fsck_objects.proofs.Passes.{fails_name, fails_named}
use Rattle.fsck_names.specs.Named.{mark_of, NamedBy, LinkedBy}
use Rattle.fsck_names.proofs.Joins.{used_passes, is_used}

-- ---- searches and counts, one number further
lowest_skip : (p : ℕ → Bool) (n : ℕ) → p n ≡ false → lowest (n + 1) p ≡ lowest n p
unfolding lowest
lowest_skip p n e = rw (passing_miss p n e)

count_skip : (p : ℕ → Bool) (n : ℕ) → p n ≡ false → count (n + 1) p ≡ count n p
count_skip p n e = let a = sum_more n (λ i. bit (p i)) in let b = ap bit e in omega arith

count_step : (p : ℕ → Bool) (n : ℕ) → p n ≡ true → count (n + 1) p ≡ 1 + count n p
count_step p n e = let a = sum_more n (λ i. bit (p i)) in let b = ap bit e in omega arith

count_nothing : (p : ℕ → Bool) (n : ℕ) → lowest n p ≡ none → count n p ≡ 0
count_nothing p n e = sum_zero n (λ i. bit (p i)) (λ i l. ap bit (lowest_none p n i e l))

count_at : (p : ℕ → Bool) (n i : ℕ) → i < n → p i ≡ true → 1 ≤ count n p
count_at p n i l e = let a = sum_at n i (λ j. bit (p j)) l in let b = ap bit e in omega arith

-- a mark of 0 is that of no record, and another that of some record
mark_none : (s : Store) (x : Option ℕ) → mark_of s x ≡ 0 → x ≡ none
mark_none s none e = refl
mark_none s (some n) e = absurd (omega arith)

mark_some : (s : Store) (n o : ℕ) (x : Option ℕ) → lowest n (is_naming s o) ≡ x → (mark_of s x ≡ 0 → ⊥) → (k : ℕ) × Passes (is_naming s o) n k
mark_some s n o none e f = absurd (f refl)
mark_some s n o (some k) e f = (k, lowest_passes (is_naming s o) n k e)

-- every object may have one name, and none more than 16
some_name : (kind : ℕ) → 1 ≤ most_names kind
some_name kind = by_bool (eqb kind REGULAR) (λ e. rw e (omega arith)) (λ e. rw e (omega arith))

pub few_names : (kind : ℕ) → most_names kind ≤ most_links
few_names kind = by_bool (eqb kind REGULAR) (λ e. rw e (omega arith)) (λ e. rw e (omega arith))

pub parents_none : (s : Store) (parents : List ℕ) → Blank most_objects parents → NamedBy s 0 parents
unfolding lowest passing sum
parents_none s parents b =
    record {
      long = b.long;
      marks = λ o l. b.zero o;
      most = λ o l. omega arith;
      range = λ o. let e = b.zero o in omega arith;
      root = b.zero 0;
    }

pub links_none : (s : Store) (links : List ℕ) → Blank most_objects links → LinkedBy s 0 links
unfolding sum
links_none s links b = record { long = b.long; counts = λ o l. b.zero o }

-- ---- a free record names nothing
free_names_lem : (s : Store) (n o : ℕ) → is_used_name s n ≡ false → is_naming s o n ≡ false
unfolding is_naming
free_names_lem s n o u = rw u

pub parents_free : (s : Store) (n : ℕ) (parents : List ℕ) → is_used_name s n ≡ false → NamedBy s n parents → NamedBy s (n + 1) parents
parents_free s n parents u a =
    record {
      long = a.long;
      marks = λ o l. a.marks o l ∙ ap (mark_of s) (sym (lowest_skip (is_naming s o) n (free_names_lem s n o u)));
      most = λ o l. let e = count_skip (is_naming s o) n (free_names_lem s n o u) in let b = a.most o l in omega arith;
      range = a.range;
      root = a.root;
    }

pub links_free : (s : Store) (n : ℕ) (links : List ℕ) → is_used_name s n ≡ false → LinkedBy s n links → LinkedBy s (n + 1) links
links_free s n links u a =
    record { long = a.long; counts = λ o l. a.counts o l ∙ sym (count_skip (is_naming s o) n (free_names_lem s n o u)) }

-- ---- a used record names its child
module _ (s : Store) (t : Framed s) (n : ℕ) (l : n < names s) (w : UsedName s n) where
  names_child : (o : ℕ) → (name_at s n).child ≡ o → is_naming s o n ≡ true
  unfolding is_naming
  names_child o e = rw (is_used s n w, eq-eqb (name_at s n).child o e)

  names_other : (o : ℕ) → ((name_at s n).child ≡ o → ⊥) → is_naming s o n ≡ false
  unfolding is_naming
  names_other o e = rw (is_used s n w, ne_eqb (name_at s n).child o e)

  -- the root
  pub child_root : (name_at s n).child ≡ 0 → records_pass s ≡ false
  unfolding good_namings namings
  child_root e =
      let b = count_at (is_naming s 0) (names s) n l (names_child 0 e) in
      fails_named s 0 (omega (arith, t.some_object)) (ne_eqb (count (names s) (is_naming s 0)) 0 (λ q. absurd (omega arith)))

  module _ (parents links : List ℕ) (a : NamedBy s n parents) (b : LinkedBy s n links) (c : ℕ) (e : c ≡ (name_at s n).child) (z : c ≡ 0 → ⊥) where
    below : c < objects s
    below = omega (arith, w.child)

    counted : count (n + 1) (is_naming s c) ≡ 1 + count n (is_naming s c)
    counted = count_step (is_naming s c) n (names_child c (sym e))

    skipped : (r : ℕ) → r ≢ c → is_naming s r n ≡ false
    skipped r x = names_other r (λ y. x (sym y ∙ sym e))

    -- an object that has as many names as it may have
    pub child_many : false ≡ ltb (get_or links c 0) (most_names (object_at s c).kind) → records_pass s ≡ false
    unfolding good_namings namings
    child_many f =
        let k = sum_fewer (λ i. bit (is_naming s c i)) (n + 1) (names s) (omega arith) in
        let g = ltb-false (get_or links c 0) (most_names (object_at s c).kind) (sym f) in
        let live : is_live s c ≡ true = rw e (true_live s (name_at s n).child w.child_live) in
        fails_named s c below
        (rw (ne_eqb c 0 z, live, lt-leb (count (names s) (is_naming s c)) (most_names (object_at s c).kind) (omega (arith, b.counts c below, counted)))
        (and-false (leb 1 (count (names s) (is_naming s c)))))

    -- no object is named more often than it may be where its child is not
    most_counted : 1 + count n (is_naming s c) ≤ most_names (object_at s c).kind → (r : ℕ) → r < objects s
        → count (n + 1) (is_naming s r) ≤ most_names (object_at s r).kind
    most_counted f r q =
        by_cases (ℕ_discrete r c)
        (λ (x : r ≡ c). rw (x, counted) f)
        (λ (x : r ≢ c). rw (count_skip (is_naming s r) n (skipped r x)) (a.most r q))

    -- the map of links with the record
    linked_child : (v : ℕ) → v ≡ 1 + count n (is_naming s c) → LinkedBy s (n + 1) (set links c v)
    linked_child v f =
        let i : c < length links = omega (arith, b.long, t.few_objects, below) in
        record {
          long = simp length-set b.long;
          counts = λ r q. by_cases (ℕ_discrete r c)
              (λ (x : r ≡ c). rw x (get_or-set_same links c v 0 i ∙ f ∙ sym counted))
              (λ (x : r ≢ c). get_or-set_other links c r v 0 x ∙ b.counts r q ∙ sym (count_skip (is_naming s r) n (skipped r x)));
        }

    -- the first record of an object
    pub child_marked : (d : ℕ) → d ≡ (name_at s n).directory → get_or parents c 0 ≡ 0
        → NamedBy s (n + 1) (set parents c (d + 1)) × LinkedBy s (n + 1) (set links c 1)
    child_marked d g f =
        let i : c < length parents = omega (arith, a.long, t.few_objects, below) in
        let o = mark_none s (lowest n (is_naming s c)) (sym (a.marks c below) ∙ f) in
        let none = count_nothing (is_naming s c) n o in (
          record {
            long = simp length-set a.long;
            marks = λ r q. by_cases (ℕ_discrete r c)
                (λ (x : r ≡ c). rw (x, get_or-set_same parents c (d + 1) 0 i, lowest_hit (is_naming s c) n (n + 1) o (names_child c (sym e)) (omega arith))
                (ap (λ (k : ℕ). k + 1) g))
                (λ (x : r ≢ c). get_or-set_other parents c r (d + 1) 0 x ∙ a.marks r q ∙ ap (mark_of s) (sym (lowest_skip (is_naming s r) n (skipped r x))));
            most = most_counted (omega (arith, some_name (object_at s c).kind));
            range = λ r. by_cases (ℕ_discrete r c)
                (λ (x : r ≡ c). let k = get_or-set_same parents c (d + 1) 0 i in rw x (omega (arith, w.directory)))
                (λ (x : r ≢ c). let k = get_or-set_other parents c r (d + 1) 0 x in let m = a.range r in omega arith);
            root = get_or-set_other parents c 0 (d + 1) 0 (λ y. z (sym y)) ∙ a.root;
          },
          linked_child 1 (omega arith),
        )

    -- a further one
    marked_stays : (x : Option ℕ) → lowest n (is_naming s c) ≡ x → (mark_of s x ≡ 0 → ⊥) → lowest (n + 1) (is_naming s c) ≡ x
    marked_stays none f g = absurd (g refl)
    marked_stays (some k) f g = lowest_stays (is_naming s c) n (n + 1) k (omega arith) f

    pub child_further : (get_or parents c 0 ≡ 0 → ⊥) → true ≡ ltb (get_or links c 0) (most_names (object_at s c).kind)
        → NamedBy s (n + 1) parents × LinkedBy s (n + 1) (set links c (get_or links c 0 + 1))
    child_further f g =
        let h = ltb-true (get_or links c 0) (most_names (object_at s c).kind) (sym g) in
        let m = b.counts c below in
        let stays = marked_stays (lowest n (is_naming s c)) refl (λ q. f (a.marks c below ∙ q)) in (
          record {
            long = a.long;
            marks = λ r q. by_cases (ℕ_discrete r c)
                (λ (x : r ≡ c). rw (x, stays) (a.marks c below))
                (λ (x : r ≢ c). a.marks r q ∙ ap (mark_of s) (sym (lowest_skip (is_naming s r) n (skipped r x))));
            most = most_counted (omega arith);
            range = a.range;
            root = a.root;
          },
          linked_child (get_or links c 0 + 1) (omega arith),
        )

-- ---- what the map says once all records have passed
module _ (s : Store) (t : Framed s) (parents : List ℕ) (a : NamedBy s (names s) parents) where
  parent_of : (x : Option ℕ) → directory_of s x ≡ mark_of s x - 1
  parent_of none = refl
  parent_of (some n) = omega arith

  pub parent_is : (o : ℕ) → o < objects s → parent s o ≡ get_or parents o 0 - 1
  unfolding parent
  parent_is o h = parent_of (lowest (names s) (is_naming s o)) ∙ ap (λ (k : ℕ). k - 1) (sym (a.marks o h))

  -- the root is never named
  pub root_named : good_namings s 0 ≡ true
  unfolding good_namings namings
  root_named =
      let o = mark_none s (lowest (names s) (is_naming s 0)) (sym (a.marks 0 t.some_object) ∙ a.root) in
      eq-eqb (count (names s) (is_naming s 0)) 0 (count_nothing (is_naming s 0) (names s) o)

  -- a live object other than the root is named as it may be where it has a mark, and fails where it has none
  pub named_live : (o : ℕ) → o < objects s → (o ≡ 0 → ⊥) → (get_or parents o 0 ≡ 0 → ⊥) → good_namings s o ≡ true
  unfolding good_namings namings
  named_live o h z f =
      let k = mark_some s (names s) o (lowest (names s) (is_naming s o)) refl (λ q. f (a.marks o h ∙ q)) in
      let b = count_at (is_naming s o) (names s) k.0 k.1.below k.1.passes in
      let g = le-leb (count (names s) (is_naming s o)) (most_names (object_at s o).kind) (a.most o h) in
      rw (ne_eqb o 0 z, le-leb 1 (count (names s) (is_naming s o)) b, g) (or-true (not (is_live s o)))

  pub named_free : (o : ℕ) → (o ≡ 0 → ⊥) → is_live s o ≡ false → good_namings s o ≡ true
  unfolding good_namings
  named_free o z e = rw (ne_eqb o 0 z, e)

  pub unnamed_fails : (o : ℕ) → o < objects s → (o ≡ 0 → ⊥) → is_live s o ≡ true → get_or parents o 0 ≡ 0 → records_pass s ≡ false
  unfolding good_namings namings
  unnamed_fails o h z v f =
      let e = count_nothing (is_naming s o) (names s) (mark_none s (lowest (names s) (is_naming s o)) (sym (a.marks o h) ∙ f)) in
      fails_named s o h (rw (ne_eqb o 0 z, v, e))

  -- an object with a mark is live, or a used record names a free object
  pub marked_free_fails : (o : ℕ) → o < objects s → (get_or parents o 0 ≡ 0 → ⊥) → is_live s o ≡ false → records_pass s ≡ false
  unfolding is_naming
  marked_free_fails o h f v =
      let k = mark_some s (names s) o (lowest (names s) (is_naming s o)) refl (λ q. f (a.marks o h ∙ q)) in
      let n = k.0 in
      let b = and_both (is_used_name s n) (eqb (name_at s n).child o) k.1.passes in
      let c = eqb-true (name_at s n).child o b.1 in
      by_bool (good_name_record s n)
      (λ e. true_false (sym (true_live s o (rw c at (used_passes s n t k.1.below b.0 e).child_live)) ∙ v))
      (fails_name s n k.1.below)
