-- The counts and the length of an image, in either layout. Assumes nothing.
use mathlib.Core.Path.{◌≡◌, refl, sym, ap}
use mathlib.Core.Bool.{Bool, true, false, ◌&&◌}
use mathlib.Core.List.{List}
use Prim.Native.Nat.{ℕ, ◌+◌, ◌*◌, ◌≤◌}
use native.Mathlib.Omega.{arith}
use lib.Dec.{eqb}
use lib.ListN.{length}
use borrow.Author.Tests.{eqb-true, eq-eqb}
use Rattle.std.specs.Prelude.{Some, None}
use Rattle.kinds.specs.Layout.{object_count_offset, objects_head, names_head, object_length, old_object_length, name_record_length}
use Rattle.kinds.specs.Numbers.{most_objects, most_name_records, most_blocks}
use Rattle.spec.specs.Bytes.{be_at}
use Rattle.spec.specs.Image.{Store, volumes, objects, names, blocks}
use Rattle.spec.specs.Check.{good_counts, good_shape}
use Rattle.spec.specs.Convert.{old_names, old_blocks, old_shape}
use Rattle.laws.proofs.Count.{by_bool, and_both}
use Rattle.laws.proofs.Valid.{counts_by, counts_true}
use Rattle.fsck.specs.Found.{counts_of, old_counts, found_if, names_with, blocks_with, length_with, good_with, shape_of}
use Rattle.fsck.specs.declared.shape.Counts.{Counts}

-- ---- the shape in each layout
pub shape_is : (s : Store) → shape_of object_length s ≡ found_if (good_shape s) (counts_of s)
unfolding shape_of good_with names_with blocks_with good_shape names blocks
shape_is s = refl

pub old_shape_is : (b : List ℕ) → shape_of old_object_length b ≡ found_if (old_shape b) (old_counts b)
unfolding shape_of good_with names_with blocks_with old_shape old_names old_blocks
old_shape_is b = refl

-- ---- what an answer tells
good_bad : {A : Type 0} (k : Counts) → Some k ≡ None → A
good_bad k e = let z : ◌≡◌ {A = ℕ} 0 1 = cc in absurd (omega arith)

pub found_no : (t : Bool) (k : Counts) → found_if t k ≡ None → t ≡ false
found_no true k e = good_bad k e
found_no false k e = refl

pub found_yes : (t : Bool) (k n : Counts) → found_if t k ≡ Some n → (t ≡ true) × (n ≡ k)
found_yes true k n e = (refl, cc)
found_yes false k n e = good_bad n (sym e)

-- ---- the demands, as facts
pub record ShapedWith (width : ℕ) (b : List ℕ) : Type 0 where
  pub volume : volumes b ≡ 1
  pub some_object : 1 ≤ objects b
  pub few_objects : objects b ≤ most_objects
  pub few_names : names_with width b ≤ most_name_records
  pub few_blocks : blocks_with width b ≤ most_blocks
  pub exact : length b ≡ length_with width (objects b) (names_with width b) (blocks_with width b)

module _ (width : ℕ) (b : List ℕ) where
  shaped_with : good_with width b ≡ true → ShapedWith width b
  unfolding good_with
  shaped_with e =
      let q = names_with width b in
      let r = blocks_with width b in
      let u = and_both (eqb (volumes b) 1 && good_counts (objects b) q r) (eqb (length b) (length_with width (objects b) q r)) e in
      let v = and_both (eqb (volumes b) 1) (good_counts (objects b) q r) u.0 in
      let k = counts_by (objects b) q r v.1 in
      record {
        volume = eqb-true (volumes b) 1 v.0;
        some_object = k.0;
        few_objects = k.1;
        few_names = k.2;
        few_blocks = k.3;
        exact = eqb-true (length b) (length_with width (objects b) q r) u.1;
      }

  with_true : ShapedWith width b → good_with width b ≡ true
  unfolding good_with
  with_true h =
      rw (
        eq-eqb (volumes b) 1 h.volume,
        counts_true (objects b) (names_with width b) (blocks_with width b) h.some_object h.few_objects h.few_names h.few_blocks,
        eq-eqb (length b) (length_with width (objects b) (names_with width b) (blocks_with width b)) h.exact,
      )

  -- ---- an image that is not shaped so, and one that is, with the counts that were read
  pub shape_bad : (ShapedWith width b → ⊥) → None ≡ shape_of width b
  unfolding shape_of
  shape_bad f =
      by_bool (good_with width b) (λ e. absurd (f (shaped_with e)))
      (λ e. sym (ap (λ (t : Bool). found_if t (record { objects = objects b; names = names_with width b; blocks = blocks_with width b })) e))

  pub shape_counts : (p q r : ℕ) → p ≡ objects b → q ≡ names_with width b → r ≡ blocks_with width b → ShapedWith width b
      → Some (record { objects = p; names = q; blocks = r }) ≡ shape_of width b
  unfolding shape_of
  shape_counts p q r i j k h = rw (i, j, k, with_true h)

  -- ---- where the counts stand
  pub names_are : (p : ℕ) → p ≡ objects b → be_at b (objects_head + width * p) 4 ≡ names_with width b
  unfolding names_with
  names_are p e = rw e

  pub blocks_are : (p q at : ℕ) → p ≡ objects b → q ≡ names_with width b → at ≡ names_head + width * p + name_record_length * q
      → be_at b at 4 ≡ blocks_with width b
  unfolding blocks_with
  blocks_are p q at e f g = rw (g, e, f)

pub volumes_are : (b : List ℕ) → volumes b ≡ be_at b 0 4
unfolding volumes
volumes_are b = refl

pub objects_are : (b : List ℕ) → objects b ≡ be_at b object_count_offset 4
unfolding objects
objects_are b = refl
