use mathlib.Core.Path.{◌≡◌, ◌∙◌}
use lib.ListN.{drop, length-take, length-drop}
use lib.Seq.{get_or-take, get_or-drop}
use Prim.Native.Nat.{◌+◌, ◌-◌, ◌<◌, zero-le}
use native.Mathlib.Nat.{add-zero}
use native.Mathlib.Omega.{arith}
use Rattle.spec.specs.Room.{is_free_block}
use Rattle.store_blocks.specs.Blocks.{group}
use Rattle.store_blocks.proofs.Blocks.{used_more, mark_small, all_used}
use Rattle.store_blocks.proofs.all_used.Goals as goal

pub loop-x-init : goal.loop-x-init
loop-x-init c = (zero-le, rw add-zero)

pub loop-x-preserved : goal.loop-x-preserved
loop-x-preserved c = let map = c.args.map.now in
    let first = c.args.first.0 in
    let n = first + group - first in
    let j = c.loop-x.x-index in
    let r = first + j in
    let p = is_free_block c.args.store.now in
    let within : j < n = omega (arith, length-take n (drop first map)) in
    let mark = get_or-take n (drop first map) j 0 within ∙ get_or-drop first map j 0 ∙ c.requires.used_map.used r (omega (arith, c.requires.group_bound)) in
    let next : first + (j + 1) ≡ r + 1 = omega arith in
    (omega (arith, mark_small (p r) _ mark), rw next (omega (arith, used_more p r c.loop-x.used _ _ c.loop-x.invariant.1 mark)))

pub returns : goal.returns
returns c = let e : c.loop-x.x-index ≡ group =
    omega (arith, length-take (c.args.first.0 + group - c.args.first.0) (drop c.args.first.0 c.args.map.now), length-drop c.args.first.0 c.args.map.now, c.requires.shaped.few_blocks, c.requires.group_bound) in
    all_used c.loop-x.used _ _ (rw e at c.loop-x.invariant.1)
