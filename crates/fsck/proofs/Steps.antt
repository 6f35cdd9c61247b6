-- The steps from an object to the root. Assumes nothing.
use mathlib.Core.Path.{◌≡◌, refl, sym, ap, ◌∙◌}
use mathlib.Core.Logic.{◌≢◌, by_cases, ⊎_elim}
use mathlib.Core.List.{List}
use Prim.Native.Nat.{ℕ, zero, suc, ◌+◌, ◌-◌, ◌≤◌, ◌<◌}
use native.Mathlib.Nat.{add-zero, add-suc}
use native.Mathlib.Decide.{ℕ_discrete}
use native.Mathlib.Numerals.{add-one}
use native.Mathlib.Omega.{arith}
use lib.ListN.{length, get_or, set, length-set}
use lib.Seq.{get_or-set_same, get_or-set_other}
use Rattle.kinds.specs.Numbers.{most_objects}
use Rattle.spec.specs.Count.{iterate}
use mathlib.Core.Bool.{true, false, not, or-true}
use borrow.Author.Tests.{eq-eqb, ne_eqb}
use Rattle.spec.specs.Image.{Store, objects, names}
use Rattle.spec.specs.Room.{is_live, parent, above}
use Rattle.spec.specs.Check.{leads_to_root}
use Rattle.laws.proofs.Valid.{Framed}
use Rattle.fsck_objects.specs.Objects.{Blank}
use Rattle.fsck_names.specs.Named.{NamedBy}
use Rattle.fsck_names.proofs.Parents.{parent_is}
use Rattle.laws.proofs.Bytes.{lt_or_le}
use Rattle.fsck.specs.Tree.{Depth, Parents, Known, Steps}

pub positive : (n : ℕ) → (n ≡ 0 → ⊥) → 1 ≤ n
positive zero f = absurd (f refl)
positive (suc n) f = omega arith

module _ (s : Store) where
  above_none : (o : ℕ) → above s 0 o ≡ o
  unfolding above iterate
  above_none o = refl

  above_suc : (k o : ℕ) → above s (suc k) o ≡ parent s (above s k o)
  unfolding above iterate
  above_suc k o = refl

  above_add : (k d o : ℕ) → above s (k + d) o ≡ above s d (above s k o)
  above_add k zero o = ap (λ (n : ℕ). above s n o) (add-zero k) ∙ sym (above_none (above s k o))
  above_add k (suc d) o =
      ap (λ (n : ℕ). above s n o) (add-suc k d) ∙ above_suc (k + d) o ∙ ap (parent s) (above_add k d o) ∙ sym (above_suc d (above s k o))

  -- one step first
  above_first : (k o : ℕ) → above s (1 + k) o ≡ above s k (parent s o)
  above_first k o = above_add 1 k o ∙ ap (above s k) (above_suc 0 o ∙ ap (parent s) (above_none o))

  -- k steps, and then d, where d are the least from there
  pub depth_join : (o at k d : ℕ) → at ≡ above s k o → ((j : ℕ) → j < k → above s j o ≡ 0 → ⊥) → Depth s at d → Depth s o (k + d)
  depth_join o at k d e f a =
      record {
        root = above_add k d o ∙ ap (above s d) (sym e) ∙ a.root;
        least = λ j l z. ⊎_elim (λ (q : j < k). f j q z)
            (λ (q : k ≤ j). let w : j ≡ k + (j - k) = omega arith in
            a.least (j - k) (omega arith) (ap (above s (j - k)) e ∙ sym (above_add k (j - k) o) ∙ ap (λ (n : ℕ). above s n o) (sym w) ∙ z))
            (lt_or_le j k);
      }

  -- an object other than the root has one step more than its parent
  pub depth_zero : (o d : ℕ) → Depth s o d → (o ≡ 0 → ⊥) → d ≡ 0 → ⊥
  depth_zero o d a z e = z (sym (above_none o) ∙ ap (λ (n : ℕ). above s n o) (sym e) ∙ a.root)

  pub depth_up : (o d : ℕ) → Depth s o d → (o ≡ 0 → ⊥) → Depth s (parent s o) (d - 1)
  depth_up o d a z =
      let n = depth_zero o d a z in
      let w : d ≡ 1 + (d - 1) = omega (arith, positive d n) in
      record {
        root = sym (above_first (d - 1) o) ∙ ap (λ (n : ℕ). above s n o) (sym w) ∙ a.root;
        least = λ j l e. a.least (1 + j) (omega arith) (above_first j o ∙ e);
      }

  pub steps_by : (p o d : ℕ) → Depth s o d → Steps s p o d
  steps_by p o d a = record { found = λ l. a; lost = λ l e. a.least p l e }

-- k steps above object o, and not at the root before
pub record Climbed (s : Store) (p o at k : ℕ) : Type 0 where
  pub most : k ≤ p + 1
  pub below : at < p
  pub where_is : at ≡ above s k o
  pub not_yet : (j : ℕ) → j < k → above s j o ≡ 0 → ⊥

-- what is known while steps are written down, at an object with d steps
pub record Noted (s : Store) (p : ℕ) (depths : List ℕ) (at d : ℕ) : Type 0 where
  pub known : Known s p depths
  pub below : at < p
  pub most : d ≤ p
  pub depth : Depth s at d

module _ (s : Store) (p : ℕ) (parents : List ℕ) (a : Parents s p parents) where
  pub parent_root : parent s 0 ≡ 0
  parent_root = a.are 0 a.least ∙ ap (λ (n : ℕ). n - 1) a.root

  pub parent_below : (o : ℕ) → o < p → parent s o < p
  parent_below o h = let e = a.are o h in let r = a.range o in omega (arith, a.least)

  root_stays : (k : ℕ) → above s k 0 ≡ 0
  root_stays zero = above_none s 0
  root_stays (suc k) = above_suc s k 0 ∙ ap (parent s) (root_stays k) ∙ parent_root

  pub above_root : above s p 0 ≡ 0
  above_root = root_stays p

  -- at most p steps, so p steps
  pub depth_most : (o d : ℕ) → Depth s o d → d ≤ p → above s p o ≡ 0
  depth_most o d b h =
      let w : p ≡ d + (p - d) = omega arith in
      ap (λ (n : ℕ). above s n o) w ∙ above_add s d (p - d) o ∙ ap (above s (p - d)) b.root ∙ root_stays (p - d)

  -- ---- the climb
  pub climb_start : (o : ℕ) → o < p → Climbed s p o o 0
  climb_start o h = record { most = omega arith; below = h; where_is = sym (above_none s o); not_yet = λ j l e. absurd (omega arith) }

  module _ (depths : List ℕ) (b : Known s p depths) where
    -- an object whose steps are not known is not the root
    pub unknown : (o : ℕ) → get_or depths o 0 ≡ 0 → o ≡ 0 → ⊥
    unknown o e z = let r = b.root in let q : get_or depths 0 0 ≡ 0 = rw z at e in omega arith

    pub climb_more : (o at k up : ℕ) → k ≤ p → Climbed s p o at k → get_or depths at 0 ≡ 0 → up ≡ get_or parents at 0 - 1 → Climbed s p o up (k + 1)
    climb_more o at k up h c e u =
        let q : up ≡ parent s at = u ∙ sym (a.are at c.below) in
        record {
          most = omega arith;
          below = rw q (parent_below at c.below);
          where_is = q ∙ ap (parent s) c.where_is ∙ sym (above_suc s k o) ∙ ap (λ (n : ℕ). above s n o) (sym (add-one k));
          not_yet = λ j l z. by_cases (ℕ_discrete j k)
              (λ (x : j ≡ k). unknown at e (c.where_is ∙ ap (λ (n : ℕ). above s n o) (sym x) ∙ z))
              (λ (x : j ≢ k). c.not_yet j (omega arith) z);
        }

    pub climb_found : (o at k d : ℕ) → Climbed s p o at k → d ≡ get_or depths at 0 → (d ≡ 0 → ⊥) → Steps s p o (k + d - 1)
    climb_found o at k d c e z =
        let x = b.are at c.below (λ q. z (e ∙ q)) in
        let w : k + d - 1 ≡ k + (d - 1) = omega (arith, positive d z) in
        rw (w, e) (steps_by s p o (k + (get_or depths at 0 - 1)) (depth_join s o at k (get_or depths at 0 - 1) c.where_is c.not_yet x))

  pub climb_lost : (o at k : ℕ) → Climbed s p o at k → p < k → Steps s p o k
  climb_lost o at k c h = record { found = λ l. absurd (omega arith); lost = λ l e. c.not_yet p h e }

  -- ---- an object whose parent's steps are known
  pub marked_other : (o mark : ℕ) → mark ≡ get_or parents o 0 → (mark ≡ 0 → ⊥) → o ≡ 0 → ⊥
  marked_other o mark e f z = f (e ∙ ap (λ (n : ℕ). get_or parents n 0) z ∙ a.root)

  pub depth_next : (depths : List ℕ) → Known s p depths → (o mark depth : ℕ) → o < p → mark ≡ get_or parents o 0 → (mark ≡ 0 → ⊥)
      → depth ≡ get_or depths (mark - 1) 0 → (depth ≡ 0 → ⊥) → Depth s o depth
  depth_next depths b o mark depth h e f d g =
      let z = marked_other o mark e f in
      let up : mark - 1 ≡ parent s o = ap (λ (n : ℕ). n - 1) e ∙ sym (a.are o h) in
      let l : mark - 1 < p = omega (arith, a.range o, positive mark f) in
      let x = b.are (mark - 1) l (λ q. g (d ∙ q)) in
      let w : 1 + (get_or depths (mark - 1) 0 - 1) ≡ depth = omega (arith, positive depth g) in
      rw w at (depth_join s o (mark - 1) 1 (get_or depths (mark - 1) 0 - 1) (up ∙ ap (parent s) (sym (above_none s o)) ∙ sym (above_suc s 0 o))
      (λ j q y. z (sym (above_none s o) ∙ ap (λ (n : ℕ). above s n o) (let k : 0 ≡ j = omega arith in k) ∙ y)) x)

  -- the steps of an object written down
  pub known_set : (depths : List ℕ) → Known s p depths → (at d : ℕ) → at < p → (at ≡ 0 → ⊥) → Depth s at d → Known s p (set depths at (d + 1))
  known_set depths b at d h z x =
      let i : at < length depths = omega (arith, b.long, a.most) in
      record {
        long = simp length-set b.long;
        root = get_or-set_other depths at 0 (d + 1) 0 (λ y. z (sym y)) ∙ b.root;
        are = λ o l f. by_cases (ℕ_discrete o at)
            (λ (q : o ≡ at). let g : get_or (set depths at (d + 1)) o 0 - 1 ≡ d = rw q (rw (get_or-set_same depths at (d + 1) 0 i) (omega arith)) in
            rw (g, q) x)
            (λ (q : o ≢ at). let g = get_or-set_other depths at o (d + 1) 0 q in rw g (b.are o l (λ y. f (g ∙ y))));
      }

  -- ---- the steps written down
  pub note_more : (depths : List ℕ) (at d up : ℕ) → Noted s p depths at d → get_or depths at 0 ≡ 0 → up ≡ get_or parents at 0 - 1
      → Noted s p (set depths at (d + 1)) up (d - 1)
  note_more depths at d up n e u =
      let q : up ≡ parent s at = u ∙ sym (a.are at n.below) in
      let z = unknown depths n.known at e in
      record {
        known = known_set depths n.known at d n.below z n.depth;
        below = rw q (parent_below at n.below);
        most = omega (arith, n.most);
        depth = rw q (depth_up s at d n.depth z);
      }

  pub note_not_zero : (depths : List ℕ) (at d : ℕ) → Noted s p depths at d → get_or depths at 0 ≡ 0 → d ≡ 0 → ⊥
  note_not_zero depths at d n e = depth_zero s at d n.depth (unknown depths n.known at e)

-- ---- the map before the first object
pub known_start : (s : Store) (p : ℕ) (depths : List ℕ) → Blank most_objects depths → Known s p (set depths 0 1)
known_start s p depths b =
    let i : 0 < length depths = omega (arith, b.long) in
    let r = get_or-set_same depths 0 1 0 i in
    record {
      long = simp length-set b.long;
      root = r;
      are = λ o h f. by_cases (ℕ_discrete o 0)
          (λ (x : o ≡ 0). let g : get_or (set depths 0 1) o 0 - 1 ≡ 0 = rw (x, r) in
          rw (g, x) (record { root = above_none s 0; least = λ k l e. absurd (omega arith) }))
          (λ (x : o ≢ 0). absurd (f (get_or-set_other depths 0 o 1 0 x ∙ b.zero o)));
    }

-- ---- one object, and all
module _ (s : Store) (o : ℕ) where
  pub leads_yes : above s (objects s) o ≡ 0 → leads_to_root s o ≡ true
  unfolding leads_to_root
  leads_yes e = rw (eq-eqb (above s (objects s) o) 0 e) (or-true (not (is_live s o)))

  pub leads_free : is_live s o ≡ false → leads_to_root s o ≡ true
  unfolding leads_to_root
  leads_free e = rw e

  pub leads_no : is_live s o ≡ true → (above s (objects s) o ≡ 0 → ⊥) → leads_to_root s o ≡ false
  unfolding leads_to_root
  leads_no e f = rw (e, ne_eqb (above s (objects s) o) 0 f)

-- the map of parents that the pass over the names has made
pub parents_by : (s : Store) (p : ℕ) (parents : List ℕ) → Framed s → p ≡ objects s → NamedBy s (names s) parents → Parents s p parents
parents_by s p parents t e n =
    record {
      count = e;
      least = omega (arith, t.some_object);
      most = omega (arith, t.few_objects);
      long = n.long;
      are = λ o h. parent_is s t parents n o (omega arith);
      range = λ o. let r = n.range o in omega arith;
      root = n.root;
    }

pub below_p : (o p q : ℕ) → p ≡ q → o < p → o < q
below_p o p q e h = rw e at h
