use mathlib.Core.Path.{◌≡◌, sym, ap, ◌∙◌}
use Prim.Native.Nat.{ℕ, ◌*◌, ◌≤◌}
use native.Mathlib.Nat.{mul-le-mul}
use native.Mathlib.Omega.{arith}
use Rattle.kinds.specs.Layout.{object_length}
use Rattle.kinds.specs.Numbers.{most_objects}
use Rattle.spec.specs.Image.{objects}
use Rattle.fsck.proofs.Shapes.{ShapedWith, shape_bad, volumes_are, objects_are}
use Rattle.fsck.proofs.shape.shape.Goals as goal

-- the object records are no longer than those of a full store
few : (width objects : ℕ) → width ≤ object_length → objects ≤ most_objects → width * objects ≤ object_length * most_objects
few width objects w o = mul-le-mul w o

pub returns-then-length-lt-BLOCKS_HEAD : goal.returns-then-length-lt-BLOCKS_HEAD
returns-then-length-lt-BLOCKS_HEAD c = let s = c.args.store.now in
    shape_bad c.args.width s (λ (t : ShapedWith c.args.width s). omega (arith, t.exact))

pub returns-then-get_u32-ne1 : goal.returns-then-get_u32-ne1
returns-then-get_u32-ne1 c = let s = c.args.store.now in
    shape_bad c.args.width s (λ (t : ShapedWith c.args.width s). c.if-get_u32-ne1.true (c.get_u32.ensures ∙ sym (volumes_are s) ∙ t.volume))

pub returns-then-objects-lt1 : goal.returns-then-objects-lt1
returns-then-objects-lt1 c = let s = c.args.store.now in
    let p : c.get_u32-objects.result ≡ objects s = c.get_u32-objects.ensures ∙ sym (objects_are s) in
    shape_bad c.args.width s (λ (t : ShapedWith c.args.width s). omega (arith, t.some_object))

pub returns-then-objects-gt-MOST_OBJECTS : goal.returns-then-objects-gt-MOST_OBJECTS
returns-then-objects-gt-MOST_OBJECTS c = let s = c.args.store.now in
    let p : c.get_u32-objects.result ≡ objects s = c.get_u32-objects.ensures ∙ sym (objects_are s) in
    shape_bad c.args.width s (λ (t : ShapedWith c.args.width s). omega (arith, t.few_objects))

pub overflow_mul-width : goal.overflow_mul-width
overflow_mul-width c = omega (arith, few c.args.width c.get_u32-objects.result c.requires c.if-objects-gt-MOST_OBJECTS.false)

pub overflow_add-width : goal.overflow_add-width
overflow_add-width c = omega (arith, few c.args.width c.get_u32-objects.result c.requires c.if-objects-gt-MOST_OBJECTS.false)

pub returns-then-length-width : goal.returns-then-length-width
returns-then-length-width c = let s = c.args.store.now in
    let p = ap (λ (n : ℕ). c.args.width * n) (c.get_u32-objects.ensures ∙ sym (objects_are s)) in
    shape_bad c.args.width s (λ (t : ShapedWith c.args.width s). omega (arith, t.exact, p))

pub rest_of_shape-requires : goal.rest_of_shape-requires
rest_of_shape-requires c = let s = c.args.store.now in
    record {
      one = volumes_are s ∙ sym c.get_u32.ensures ∙ c.if-get_u32-ne1.false;
      count = c.get_u32-objects.ensures ∙ sym (objects_are s);
      least = omega arith;
      most = omega arith;
      few = few c.args.width c.get_u32-objects.result c.requires c.if-objects-gt-MOST_OBJECTS.false;
      long = omega arith;
    }
