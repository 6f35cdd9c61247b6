-- From what was found of an old image to the converter's answer. Assumes nothing.
use mathlib.Core.Path.{◌≡◌, refl, sym, ap, ◌∙◌}
use mathlib.Core.Bool.{true, false, ◌&&◌}
use mathlib.Core.List.{List}
use Prim.Native.Nat.{ℕ, ◌+◌, ◌-◌, ◌*◌}
use native.Mathlib.Omega.{arith}
use lib.ListN.{length}
use Rattle.std.specs.Prelude.{Some, None}
use Rattle.kinds.specs.Layout.{object_length, old_object_length}
use Rattle.spec.specs.Bytes.{part}
use Rattle.spec.specs.Count.{every}
use Rattle.spec.specs.Image.{Store, objects}
use Rattle.spec.specs.Check.{passes}
use Rattle.spec.specs.Convert.{old_names, old_blocks, old_shape, converted, is_named_once, good_old}
use Rattle.spec.specs.Serve.{Written, convert}
use Rattle.laws.proofs.Bytes.{part_whole}
use Rattle.laws.proofs.Converted.{OldShaped, new_length, keeps, old_shaped, converts}
use Rattle.fsck.specs.Found.{old_counts, shape_of}
use Rattle.fsck.specs.Format.{Leaves}
use Rattle.fsck.specs.declared.shape.Counts.{Counts}
use Rattle.fsck.proofs.Shapes.{old_shape_is, found_no, found_yes}

-- ---- the shape
-- an old image has a good shape, and these counts
pub record GoodShape (old : List ℕ) (k : Counts) : Type 0 where
  pub passes : old_shape old ≡ true
  pub shaped : OldShaped old
  pub objects : k.objects ≡ objects old
  pub names : k.names ≡ old_names old
  pub blocks : k.blocks ≡ old_blocks old

module _ (old : List ℕ) where
  pub shape_no : shape_of old_object_length old ≡ None → old_shape old ≡ false
  shape_no e = found_no (old_shape old) (old_counts old) (sym (old_shape_is old) ∙ e)

  pub shape_yes : (k : Counts) → shape_of old_object_length old ≡ Some k → GoodShape old k
  shape_yes k e =
      let f = found_yes (old_shape old) (old_counts old) k (sym (old_shape_is old) ∙ e) in
      record {
        passes = f.0;
        shaped = old_shaped old f.0;
        objects = ap (λ (x : Counts). x.objects) f.1;
        names = ap (λ (x : Counts). x.names) f.1;
        blocks = ap (λ (x : Counts). x.blocks) f.1;
      }

  -- the length of the image
  new_length_lem : (p : ℕ) → OldShaped old → p ≡ objects old → length old + (object_length - old_object_length) * p ≡ new_length old
  new_length_lem p t e = omega (arith, t.exact)

-- ---- the answers
leaves_by : (w : Written) (n : ℕ) (s : Store) → w ≡ record { number = n; store = s } → Leaves w n s
leaves_by w n s e = rw e (record { answers = refl; leaves = refl })

module _ (old : List ℕ) (s : Store) where
  pub leaves_bad_shape : old_shape old ≡ false → Leaves (convert old s) 1 s
  unfolding good_old
  leaves_bad_shape e = leaves_by (convert old s) 1 s ((converts old s).bad (rw e))

  pub leaves_bad : old_shape old ≡ true → false ≡ (passes (converted old) && every (objects old) (is_named_once (converted old)))
      → Leaves (convert old s) 1 s
  unfolding good_old
  leaves_bad g e = leaves_by (convert old s) 1 s ((converts old s).bad (rw g (sym e)))

  module _ (k : Counts) (g : GoodShape old k) (h : true ≡ (passes (converted old) && every (objects old) (is_named_once (converted old)))) where
    long : length old + (object_length - old_object_length) * k.objects ≡ new_length old
    long = new_length_lem old k.objects g.shaped g.objects

    good : good_old old ≡ true
    unfolding good_old
    good = rw g.passes (sym h)

    pub leaves_other : (length s ≡ length old + (object_length - old_object_length) * k.objects → ⊥) → Leaves (convert old s) 6 s
    leaves_other f = leaves_by (convert old s) 6 s ((converts old s).other_length good (λ e. f (e ∙ sym long)))

    pub leaves_done : (t : Store) → length s ≡ length old + (object_length - old_object_length) * k.objects → t ≡ part (converted old) 0 (length s)
        → Leaves (convert old s) 0 t
    leaves_done t e f =
        let whole = f ∙ part_whole (converted old) (length s) ((keeps old g.shaped).exact ∙ sym (e ∙ long)) in
        leaves_by (convert old s) 0 t ((converts old s).done good (e ∙ long) ∙ ap (λ (x : Store). record { number = 0; store = x }) (sym whole))
