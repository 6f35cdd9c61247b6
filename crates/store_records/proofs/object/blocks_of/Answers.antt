use native.Mathlib.Omega.{arith}
use mathlib.Core.Path.{refl}
use lib.ListN.{length-set}
use Rattle.kinds.specs.Numbers.{file_blocks}
use Rattle.spec.specs.Image.{object_at}
use Rattle.store_records.proofs.Numbered.{numbers_next, numbers_all, blocks_long}
use Rattle.store_records.proofs.object.blocks_of.Goals as goal

pub loop-k-init : goal.loop-k-init
loop-k-init c = (refl, refl)

pub loop-k-preserved : goal.loop-k-preserved
loop-k-preserved c = let i = c.loop-k.invariant in
    let a = c.args in
    let long = blocks_long a.store.now a.o.0 in (
      simp length-set i.0,
      numbers_next c.loop-k.blocks (object_at a.store.now a.o.0).blocks c.loop-k.k c.block_of.result (omega arith) (omega (arith, long))
          c.block_of.ensures i.1,
    )

pub returns : goal.returns
returns c = let i = c.loop-k.invariant in
    let a = c.args in
    numbers_all c.loop-k.blocks (object_at a.store.now a.o.0).blocks c.loop-k.k file_blocks (omega arith) i.0 (blocks_long a.store.now a.o.0) i.1
