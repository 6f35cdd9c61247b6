-- The laws of the map of used blocks. Assumes nothing.
use mathlib.Core.Path.{◌≡◌, refl, sym, ap, ◌∙◌}
use mathlib.Core.Logic.{◌≢◌, by_cases, ⊎_elim}
use mathlib.Core.Bool.{Bool, true, false, ◌&&◌, ◌||◌, not, and-false, or-false, or-true}
use mathlib.Core.List.{List, [], ◌∷◌}
use Prim.Native.Nat.{ℕ, zero, suc, ◌+◌, ◌*◌, ◌-◌, ◌/◌, ◌%◌, ◌≤◌, ◌<◌}
use native.Mathlib.Nat.{not-suc-le-zero}
use native.Mathlib.Decide.{ℕ_discrete}
use native.Mathlib.Numerals.{add-one}
use native.Mathlib.Omega.{arith}
use lib.Dec.{eqb, ltb}
use lib.ListN.{length, take, get_or, set, length-set, length-take}
use lib.Seq.{take-suc, get_or-set_same, get_or-set_other}
use borrow.Author.Tests.{lt-ltb, le-ltb, eq-eqb, ne_eqb, eqb-true}
use Rattle.kinds.specs.Layout.{blocks_offset, object_length}
use Rattle.kinds.specs.Numbers.{file_blocks, unused_block}
use Rattle.kinds.specs.declared.object.Object.{Object}
use Rattle.spec.specs.Count.{bit, every, times}
use Rattle.spec.specs.Image.{Store, blocks, object_start, object_from, object_at}
use Rattle.spec.specs.Room.{is_live, need, size_of, held}
use Rattle.spec.specs.Check.{good_block, good_free, good_live, good_object, records_pass}
use Rattle.laws.proofs.Bytes.{lt_or_le, be_2}
use Rattle.laws.proofs.Count.{sum_more, times_append, every_more, every_fails, every_at, every_all}
use Rattle.laws.proofs.Records.{halves_count, half_read}
use Rattle.laws.proofs.CreateObject.{no_blocks}
use Rattle.laws.proofs.Valid.{Framed, free_object_lem}
use Rattle.fsck_objects.specs.Objects.{good_fields, is_unused, mark_for, LiveAt, uses_below, MarkedBy, MarkedTo, Inside}
use Rattle.fsck_objects.proofs.Passes.{fails_object}

-- ---- sums and counts
times_one : (r x : ℕ) → times r (x ∷ []) ≡ bit (eqb x r)
unfolding times
times_one r x = omega arith

-- one place more
times_next : (xs : List ℕ) (r k : ℕ) → k < length xs → times r (take (k + 1) xs) ≡ times r (take k xs) + bit (eqb (get_or xs k 0) r)
times_next xs r k h = rw (add-one, take-suc xs k 0 h, times_append, times_one)

-- ---- marks
mark_one : (n : ℕ) → 1 ≤ n → mark_for n ≡ 1
mark_one zero h = absurd (not-suc-le-zero h)
mark_one (suc n) h = refl

-- ---- the block numbers of an object
blocks_length_lem : (s : Store) (o : ℕ) → length (object_at s o).blocks ≡ file_blocks
unfolding object_at object_from
blocks_length_lem s o = halves_count s (object_start o + blocks_offset) file_blocks

held_is : (s : Store) (o : ℕ) → held s o ≡ take (need (object_at s o).size) (object_at s o).blocks
unfolding held size_of
held_is s o = refl

times_none : (r : ℕ) → times r [] ≡ 0
unfolding times
times_none r = refl

-- ---- the map before, during and after an object's blocks
pub mark_start : (s : Store) (o : ℕ) (used : List ℕ) → MarkedBy s o used → MarkedTo s o 0 used
unfolding every
mark_start s o used m =
    record {
      long = m.long;
      marks = λ r h. let b = times_none r in
          let e : uses_below s o r ≡ uses_below s o r + times r (take 0 (object_at s o).blocks) = omega arith in m.marks r h ∙ ap mark_for e;
      good = refl;
    }

module _ (s : Store) (o count k : ℕ) (t : Framed s) (a : LiveAt s o count) (h : k < count) where
  short : k < length (object_at s o).blocks
  short = rw blocks_length_lem (omega (arith, a.most))

  good_now : get_or (object_at s o).blocks k 0 < blocks s → good_block (blocks s) (object_at s o) k ≡ true
  unfolding good_block
  good_now l = rw (lt-ltb k (need (object_at s o).size) (omega (arith, a.needs)), lt-ltb _ _ l)

  pub mark_more : (used : List ℕ) (m : MarkedTo s o k used) (b : ℕ) → b ≡ get_or (object_at s o).blocks k 0 → b < blocks s
      → MarkedTo s o (k + 1) (set used b 1)
  mark_more used m b e l =
      let i : b < length used = omega (arith, m.long, t.few_blocks) in
      record {
        long = simp length-set m.long;
        marks = λ r q. by_cases (ℕ_discrete r b)
            (λ (w : r ≡ b). let n = times_next (object_at s o).blocks b k short in
            let g = ap bit (eq-eqb (get_or (object_at s o).blocks k 0) b (sym e)) in
            let z : 1 ≤ uses_below s o b + times b (take (k + 1) (object_at s o).blocks) = omega arith in
            rw w (get_or-set_same used b 1 0 i ∙ sym (mark_one _ z)))
            (λ (w : r ≢ b). let n = times_next (object_at s o).blocks r k short in
            let g = ap bit (ne_eqb (get_or (object_at s o).blocks k 0) r (λ x. w (sym (e ∙ x)))) in
            let z : uses_below s o r + times r (take k (object_at s o).blocks) ≡ uses_below s o r + times r (take (k + 1) (object_at s o).blocks) = omega arith in
            get_or-set_other used b r 1 0 w ∙ m.marks r q ∙ ap mark_for z);
        good = every_more (good_block (blocks s) (object_at s o)) k m.good (good_now (rw e at l));
      }

  -- a block out of range
  pub mark_out : blocks s ≤ get_or (object_at s o).blocks k 0 → records_pass s ≡ false
  unfolding good_object good_live good_block good_fields
  mark_out l =
      let g : good_block (blocks s) (object_at s o) k ≡ false = rw (lt-ltb k (need (object_at s o).size) (omega (arith, a.needs)), le-ltb _ _ l) in
      fails_object s o a.below (rw (a.live, every_fails (good_block (blocks s) (object_at s o)) k file_blocks g (omega (arith, a.most)))
      (and-false (good_fields (object_at s o))))

-- four blocks at once
pub mark_four : (s : Store) (o count k : ℕ) → Framed s → LiveAt s o count → k + 4 ≤ count → (used : List ℕ) → MarkedTo s o k used → (x y z w : ℕ)
    → x ≡ get_or (object_at s o).blocks k 0 → x < blocks s → y ≡ get_or (object_at s o).blocks (k + 1) 0 → y < blocks s
    → z ≡ get_or (object_at s o).blocks (k + 2) 0 → z < blocks s → w ≡ get_or (object_at s o).blocks (k + 3) 0 → w < blocks s
    → MarkedTo s o (k + 4) (set (set (set (set used x 1) y 1) z 1) w 1)
mark_four s o count k t a h used m x y z w ex lx ey ly ez lz ew lw =
    let two : k + 1 + 1 ≡ k + 2 = omega arith in
    let three : k + 2 + 1 ≡ k + 3 = omega arith in
    let four : k + 3 + 1 ≡ k + 4 = omega arith in
    let m1 = mark_more s o count k t a (omega arith) used m x ex lx in
    let m2 = rw two at (mark_more s o count (k + 1) t a (omega arith) (set used x 1) m1 y ey ly) in
    let m3 = rw three at (mark_more s o count (k + 2) t a (omega arith) (set (set used x 1) y 1) m2 z ez lz) in
    rw four at (mark_more s o count (k + 3) t a (omega arith) (set (set (set used x 1) y 1) z 1) m3 w ew lw)

-- the blocks of a live object
held_count : (s : Store) (o count : ℕ) → LiveAt s o count → held s o ≡ take count (object_at s o).blocks
held_count s o count a = rw (held_is s o, a.needs)

pub held_end : (s : Store) (o count : ℕ) → LiveAt s o count → count ≡ length (held s o)
held_end s o count a = rw (held_count s o count a, length-take, blocks_length_lem) (omega (arith, a.most))

-- the map after the object
pub mark_end : (s : Store) (o count : ℕ) (used : List ℕ) → LiveAt s o count → MarkedTo s o count used → MarkedBy s (o + 1) used
mark_end s o count used a m =
    record {
      long = m.long;
      marks = λ r h.
          let f = sum_more o (λ i. times r (held s i)) in
          let v = ap (times r) (held_count s o count a) in
          let e : uses_below s o r + times r (take count (object_at s o).blocks) ≡ uses_below s (o + 1) r = omega arith in
          m.marks r h ∙ ap mark_for e;
    }

-- a free object has no block
pub free_held : (s : Store) (o : ℕ) → object_start o + object_length ≤ length s → is_live s o ≡ false → good_free s o ≡ true → held s o ≡ []
free_held s o h l e = no_blocks s o (ap (λ (v : Object). v.size) (free_object_lem s o h l e))

pub mark_free : (s : Store) (o : ℕ) (used : List ℕ) → held s o ≡ [] → MarkedBy s o used → MarkedBy s (o + 1) used
mark_free s o used e m =
    record {
      long = m.long;
      marks = λ r h.
          let f = sum_more o (λ i. times r (held s i)) in
          let v = ap (times r) e ∙ times_none r in
          let q : uses_below s o r ≡ uses_below s (o + 1) r = omega arith in
          m.marks r h ∙ ap mark_for q;
    }

-- ---- the block numbers past those that the size needs
module _ (s : Store) (o k : ℕ) (h : need (object_at s o).size ≤ k) where
  unused_good : get_or (object_at s o).blocks k 0 ≡ unused_block → good_block (blocks s) (object_at s o) k ≡ true
  unfolding good_block
  unused_good e = rw (le-ltb k (need (object_at s o).size) h, eq-eqb (get_or (object_at s o).blocks k 0) unused_block e)

  unused_is : good_block (blocks s) (object_at s o) k ≡ true → get_or (object_at s o).blocks k 0 ≡ unused_block
  unfolding good_block
  unused_is e = eqb-true (get_or (object_at s o).blocks k 0) unused_block (rw (le-ltb k (need (object_at s o).size) h) at e)

-- byte i of 32 is past the first n, as the map tells
pub outside : (inside : List ℕ) → Inside inside → (n i : ℕ) → n ≤ 32 → i < 32 → eqb (get_or inside (32 - n + i) 0) 0 ≡ not (ltb i n)
outside inside v n i h l =
    ⊎_elim (λ (q : i < n). rw (lt-ltb i n q, v.ones (32 - n + i) (omega arith))) (λ (q : n ≤ i). rw (le-ltb i n q, v.zeros (32 - n + i) (omega arith)))
    (lt_or_le i n)

not_and : (t u : Bool) → not (not t && not u) ≡ t || u
not_and true u = refl
not_and false true = refl
not_and false false = refl

pub unused_step : (inside : List ℕ) → Inside inside → (n i x : ℕ) → n ≤ 32 → i < 32
    → not (not (eqb x 255) && eqb (get_or inside (32 - n + i) 0) 0) ≡ eqb x 255 || ltb i n
unused_step inside v n i x h l = rw (outside inside v n i h l) (not_and (eqb x 255) (ltb i n))

same_tests : (t u : Bool) → (t ≡ true → u ≡ true) → (u ≡ true → t ≡ true) → t ≡ u
same_tests true u f g = sym (f refl)
same_tests false true f g = g refl
same_tests false false f g = refl

module _ (s : Store) (o count : ℕ) (fits : object_start o + object_length ≤ length s) (bytes : (i : ℕ) → get_or s i 0 < 256) (most : count ≤ file_blocks)
    (needs : count ≡ need (object_at s o).size) where
  -- block number k is its two bytes
  number : (k : ℕ) → k < file_blocks
      → get_or (object_at s o).blocks k 0 ≡ get_or s (object_start o + blocks_offset + 2 * k) 0 * 256 + get_or s (object_start o + blocks_offset + 2 * k + 1) 0
  unfolding object_at object_from
  number k h = half_read s (object_start o + blocks_offset) file_blocks k h ∙ sym (be_2 s (object_start o + blocks_offset + 2 * k) (omega arith))

  past : (i : ℕ) → every 32 (is_unused s (object_start o + blocks_offset) (2 * count)) ≡ true → i < 32 → 2 * count ≤ i
      → get_or s (object_start o + blocks_offset + i) 0 ≡ 255
  past i e h l =
      let q = every_at (is_unused s (object_start o + blocks_offset) (2 * count)) 32 i e h in
      let x = get_or s (object_start o + blocks_offset + i) 0 in
      eqb-true x 255 (sym (or-false (eqb x 255)) ∙ (rw (le-ltb i (2 * count) l) at q))

  pub rest_is : every count (good_block (blocks s) (object_at s o)) ≡ true
      → every 32 (is_unused s (object_start o + blocks_offset) (2 * count)) ≡ every file_blocks (good_block (blocks s) (object_at s o))
  rest_is g =
      same_tests _ _
      (λ e. every_all (good_block (blocks s) (object_at s o)) file_blocks (λ k h. ⊎_elim
      (λ (l : k < count). every_at (good_block (blocks s) (object_at s o)) count k g l)
      (λ (l : count ≤ k). let x = past (2 * k) e (omega arith) (omega arith) in let y = past (2 * k + 1) e (omega arith) (omega arith) in
      let w : object_start o + blocks_offset + (2 * k + 1) ≡ object_start o + blocks_offset + 2 * k + 1 = omega arith in
      let z = rw w at y in
      let n = number k h in
      unused_good s o k (omega arith) (omega arith))
      (lt_or_le k count)))
      (λ e. every_all (is_unused s (object_start o + blocks_offset) (2 * count)) 32 (λ i h. ⊎_elim
      (λ (l : i < 2 * count). rw (lt-ltb i (2 * count) l) (or-true (eqb (get_or s (object_start o + blocks_offset + i) 0) 255)))
      (λ (l : 2 * count ≤ i). rw (eq-eqb (get_or s (object_start o + blocks_offset + i) 0) 255 (byte e i h l)))
      (lt_or_le i (2 * count))))
    where
      byte : every file_blocks (good_block (blocks s) (object_at s o)) ≡ true → (i : ℕ) → i < 32 → 2 * count ≤ i
          → get_or s (object_start o + blocks_offset + i) 0 ≡ 255
      byte e i h l =
          let q = unused_is s o (i / 2) (omega arith) (every_at (good_block (blocks s) (object_at s o)) file_blocks (i / 2) e (omega arith)) in
          let n = number (i / 2) (omega arith) in
          let x = bytes (object_start o + blocks_offset + 2 * (i / 2)) in
          let y = bytes (object_start o + blocks_offset + 2 * (i / 2) + 1) in
          by_cases (ℕ_discrete (i % 2) 0)
          (λ (z : i % 2 ≡ 0). let w : object_start o + blocks_offset + i ≡ object_start o + blocks_offset + 2 * (i / 2) = omega arith in rw w (omega arith))
          (λ (z : i % 2 ≢ 0). let w : object_start o + blocks_offset + i ≡ object_start o + blocks_offset + 2 * (i / 2) + 1 = omega arith in rw w (omega arith))
