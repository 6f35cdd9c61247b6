-- The places of all objects, and how many blocks are marked: no block is used twice where they are as many. Assumes nothing.
use mathlib.Core.Path.{◌≡◌, refl, sym, ◌∙◌}
use mathlib.Core.Logic.{◌≢◌, by_cases}
use mathlib.Core.Bool.{true, false}
use mathlib.Core.List.{List}
use Prim.Native.Nat.{ℕ, zero, suc, ◌+◌, ◌≤◌, ◌<◌}
use native.Mathlib.Nat.{not-suc-le-zero, add-zero, add-suc}
use native.Mathlib.Decide.{ℕ_discrete}
use native.Mathlib.Omega.{arith}
use lib.Dec.{eqb}
use lib.ListN.{length, get_or}
use borrow.Author.Tests.{le-leb, leb-true, eqb-true, eqb-false}
use Rattle.kinds.specs.Numbers.{most_blocks}
use Rattle.spec.specs.Count.{sum, every, times}
use Rattle.spec.specs.Image.{Store, objects, blocks}
use Rattle.spec.specs.Room.{held, uses}
use Rattle.spec.specs.Check.{good_object, is_used_once, records_pass}
use Rattle.laws.proofs.Count.{by_bool, sum_ext, every_at, every_all}
use Rattle.laws.proofs.FreeCount.{uses_total}
use Rattle.laws.proofs.FreeRoom.{good_range}
use Rattle.laws.proofs.Valid.{Framed, object_good}
use Rattle.fsck_objects.specs.Told.{Told}
use Rattle.fsck_objects.specs.Objects.{mark_for, uses_below, Blank, UsedBy, MarkedBy, AreMarks, ObjectsPass}
use Rattle.fsck_objects.proofs.Passes.{fails, told_true, told_false}

-- ---- sums
-- where each term is at most another, and the sums are the same, so are the terms
sum_below : (n : ℕ) (f g : ℕ → ℕ) → ((i : ℕ) → i < n → f i ≤ g i) → sum n f ≤ sum n g
unfolding sum
sum_below zero f g h = omega arith
sum_below (suc n) f g h = let a = sum_below n f g (λ i l. h i (omega arith)) in let b = h n (omega arith) in omega arith

sum_same : (n : ℕ) (f g : ℕ → ℕ) → ((i : ℕ) → i < n → f i ≤ g i) → sum n f ≡ sum n g → (i : ℕ) → i < n → f i ≡ g i
unfolding sum
sum_same zero f g h e i l = absurd (not-suc-le-zero l)
sum_same (suc n) f g h e i l =
    let a = sum_below n f g (λ j q. h j (omega arith)) in
    let b = h n (omega arith) in
    by_cases (ℕ_discrete i n)
    (λ (w : i ≡ n). let q : f n ≡ g n = omega arith in rw w q)
    (λ (d : i ≢ n). sum_same n f g (λ j q. h j (omega arith)) (omega arith) i (omega arith))

-- a sum in two parts
pub sum_split : (m n : ℕ) (f : ℕ → ℕ) → sum (m + n) f ≡ sum m f + sum n (λ i. f (m + i))
unfolding sum
sum_split m zero f = rw add-zero (omega arith)
sum_split m (suc n) f = rw add-suc (let r = sum_split m n f in omega arith)

-- ---- marks
mark_most : (n : ℕ) → mark_for n ≤ n
mark_most zero = omega arith
mark_most (suc n) = omega arith

mark_small : (n : ℕ) → mark_for n ≤ 1
mark_small zero = omega arith
mark_small (suc n) = omega arith

mark_same : (n : ℕ) → n ≤ 1 → mark_for n ≡ n
mark_same zero h = refl
mark_same (suc n) h = omega arith

-- the map before the first object
pub mark_none : (s : Store) (used : List ℕ) → Blank most_blocks used → MarkedBy s 0 used
unfolding sum
mark_none s used z = record { long = z.long; marks = λ r h. z.zero r }

-- as many blocks are marked as there are places: no block is used twice
pub marks_all : (s : Store) (used : List ℕ) → MarkedBy s (objects s) used → sum (blocks s) (uses s) ≡ sum (blocks s) (λ r. get_or used r 0)
    → UsedBy s (objects s) used
unfolding uses
marks_all s used m e =
    let f = sum_same (blocks s) (λ r. get_or used r 0) (uses_below s (objects s))
    (λ r h. let a = m.marks r h in let b = mark_most (uses_below s (objects s) r) in omega arith) (sym e) in
    record { long = m.long; uses = f; once = λ r h. let a = m.marks r h in let b = mark_small (uses_below s (objects s) r) in omega arith }

-- fewer: one is
pub marks_few : (s : Store) (used : List ℕ) → MarkedBy s (objects s) used → (sum (blocks s) (uses s) ≡ sum (blocks s) (λ r. get_or used r 0) → ⊥)
    → records_pass s ≡ false
unfolding is_used_once uses
marks_few s used m f =
    fails s (λ d. f (sum_ext (blocks s) (uses_below s (objects s)) (λ r. get_or used r 0) (λ r h.
    let l = leb-true (uses_below s (objects s) r) 1 (every_at (is_used_once s) (blocks s) r d.used_once h) in
    sym (m.marks r h ∙ mark_same (uses_below s (objects s) r) l))))

-- the map holds marks
pub marks_are : (s : Store) (o : ℕ) (used : List ℕ) (limit : ℕ) → MarkedBy s o used → limit ≡ blocks s → AreMarks used 0 limit
marks_are s o used limit m e =
    record {
      most = λ i h.
          let q : 0 + i ≡ i = omega arith in
          let a = m.marks i (omega arith) in
          let b = mark_small (uses_below s o i) in
          rw q (omega arith);
    }

-- a part of the marks
pub marks_from : {map : List ℕ} {limit : ℕ} → AreMarks map 0 limit → (from n : ℕ) → from + n ≤ limit → AreMarks map from n
marks_from m from n h = record { most = λ i l. let e : 0 + (from + i) ≡ from + i = omega arith in rw e at (m.most (from + i) (omega arith)) }

-- no block is used twice where the map is that of all objects
pub used_once : (s : Store) (used : List ℕ) → UsedBy s (objects s) used → every (blocks s) (is_used_once s) ≡ true
unfolding is_used_once uses
used_once s used m =
    every_all (is_used_once s) (blocks s) (λ r h. let u = m.uses r h in let w = m.once r h in le-leb (sum (objects s) (λ i. times r (held s i))) 1
    (omega arith))

-- the blocks of all objects are the uses of all blocks
pub uses_are : (s : Store) → Framed s → every (objects s) (good_object s) ≡ true → sum (objects s) (λ o. length (held s o)) ≡ sum (blocks s) (uses s)
uses_are s t g =
    sym (uses_total s (λ o h. good_range s o (object_good s o (omega (arith, t.inside)) (every_at (good_object s) (objects s) o g h))))

-- all objects pass: no block is used twice where as many are marked as there are places
pub told_all : (s : Store) (used : List ℕ) (total marked count limit : ℕ) → Framed s → count ≡ objects s → limit ≡ blocks s
    → total ≡ sum count (λ o. length (held s o)) → MarkedBy s count used → every count (good_object s) ≡ true → marked ≡ sum limit (λ i. get_or used i 0)
    → Told (eqb total marked) s (ObjectsPass s count used)
told_all s used total marked count limit t e f p m g q =
    let u = rw e at p ∙ uses_are s t (rw e at g) in
    by_bool (eqb total marked)
    (λ b. rw b (told_true (record {
      map = rw (← e) at (marks_all s used (rw e at m) (rw f at (sym u ∙ eqb-true total marked b ∙ q)));
      good = g;
    })))
    (λ b. rw b (told_false (marks_few s used (rw e at m) (λ w. eqb-false total marked b (u ∙ rw f w ∙ sym q)))))
