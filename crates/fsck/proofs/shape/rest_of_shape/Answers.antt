use mathlib.Core.Path.{◌≡◌, ap, ◌∙◌}
use Prim.Native.Nat.{ℕ, ◌*◌}
use native.Mathlib.Omega.{arith}
use Rattle.fsck.specs.Found.{names_with, blocks_with}
use Rattle.fsck.proofs.Shapes.{ShapedWith, shape_bad, shape_counts, names_are, blocks_are}
use Rattle.fsck.proofs.shape.rest_of_shape.Goals as goal

pub returns-then-names-gt-MOST_NAME_RECORDS : goal.returns-then-names-gt-MOST_NAME_RECORDS
returns-then-names-gt-MOST_NAME_RECORDS c = let s = c.args.store.now in
    let w = c.args.width in
    let q : c.get_u32-names.result ≡ names_with w s = c.get_u32-names.ensures ∙ names_are w s c.args.objects c.requires.count in
    shape_bad w s (λ (t : ShapedWith w s). omega (arith, t.few_names))

pub returns-then-length-start : goal.returns-then-length-start
returns-then-length-start c = let s = c.args.store.now in
    let w = c.args.width in
    let k = ap (λ (n : ℕ). w * n) c.requires.count in
    let q : c.get_u32-names.result ≡ names_with w s = c.get_u32-names.ensures ∙ names_are w s c.args.objects c.requires.count in
    shape_bad w s (λ (t : ShapedWith w s). omega (arith, t.exact, k))

pub returns-then-blocks-gt-MOST_BLOCKS : goal.returns-then-blocks-gt-MOST_BLOCKS
returns-then-blocks-gt-MOST_BLOCKS c = let s = c.args.store.now in
    let w = c.args.width in
    let q : c.get_u32-names.result ≡ names_with w s = c.get_u32-names.ensures ∙
    names_are w s c.args.objects c.requires.count in
    let r : c.get_u32-blocks.result ≡ blocks_with w s = c.get_u32-blocks.ensures ∙ blocks_are w s c.args.objects
    c.get_u32-names.result _ c.requires.count q (omega arith) in
    shape_bad w s (λ (t : ShapedWith w s). omega (arith, t.few_blocks))

pub returns-then-length-start-2 : goal.returns-then-length-start-2
returns-then-length-start-2 c = let s = c.args.store.now in
    let w = c.args.width in
    let k = ap (λ (n : ℕ). w * n) c.requires.count in
    let q : c.get_u32-names.result ≡ names_with w s = c.get_u32-names.ensures ∙
    names_are w s c.args.objects c.requires.count in
    let r : c.get_u32-blocks.result ≡ blocks_with w s = c.get_u32-blocks.ensures ∙ blocks_are w s c.args.objects
    c.get_u32-names.result _ c.requires.count q (omega arith) in
    shape_bad w s (λ (t : ShapedWith w s). c.if-length-start-2.true (omega (arith, t.exact, k)))

pub returns : goal.returns
returns c = let s = c.args.store.now in
    let w = c.args.width in
    let k = ap (λ (n : ℕ). w * n) c.requires.count in
    let q : c.get_u32-names.result ≡ names_with w s = c.get_u32-names.ensures ∙
    names_are w s c.args.objects c.requires.count in
    let r : c.get_u32-blocks.result ≡ blocks_with w s = c.get_u32-blocks.ensures ∙ blocks_are w s c.args.objects
    c.get_u32-names.result _ c.requires.count q (omega arith) in
    shape_counts w s c.args.objects c.get_u32-names.result c.get_u32-blocks.result c.requires.count q r
    (record {
      volume = c.requires.one;
      some_object = omega arith;
      few_objects = omega arith;
      few_names = omega arith;
      few_blocks = omega arith;
      exact = omega (arith, k);
    })
