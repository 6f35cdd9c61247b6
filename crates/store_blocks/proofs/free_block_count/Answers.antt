use Prim.Native.Nat.{◌<◌}
use mathlib.Core.Path.{◌≡◌, refl, ◌∙◌}
use native.Mathlib.Omega.{arith}
use lib.ListN.{length-take}
use lib.Seq.{get_or-take}
use Rattle.spec.specs.Count.{sum}
use Rattle.spec.specs.Image.{blocks}
use Rattle.spec.specs.Room.{is_free_block, free_block_count}
use Rattle.store_blocks.proofs.Blocks.{used_more}
use Rattle.store_blocks.proofs.free_block_count.Goals as goal

pub loop-x-init : goal.loop-x-init
unfolding sum
loop-x-init c = refl

pub loop-x-preserved : goal.loop-x-preserved
loop-x-preserved c = let map = c.args.map.now in
    let total = c.block_count-total.result in
    let i = c.loop-x.x-index in
    let within : i < total = omega (arith, length-take total map) in
    used_more (is_free_block c.args.store.now) i c.loop-x.used _ i c.loop-x.invariant
    (get_or-take total map i 0 within ∙ c.requires.used_map.used i (omega (arith, c.block_count-total.ensures)))

pub returns : goal.returns
unfolding free_block_count
returns c = let e : c.loop-x.x-index ≡ blocks c.args.store.now = omega (arith, length-take c.block_count-total.result c.args.map.now, c.requires.shaped.few_blocks, c.block_count-total.ensures) in
    let sum = rw e at c.loop-x.invariant in
    omega (arith, sum)
