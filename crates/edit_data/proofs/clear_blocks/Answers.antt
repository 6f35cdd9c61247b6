use Prim.Native.Nat.{◌-◌, ◌≤◌}
use mathlib.Core.Path.{◌≡◌, refl}
use native.Mathlib.Omega.{arith}
use borrow.Author.Rules.{rules}
use lib.ListN.{length}
use Rattle.kinds.specs.BlockNumbers.{numbers_of}
use Rattle.spec.specs.Bytes.{part}
use Rattle.spec.specs.Edits.{clear_blocks}
use Rattle.store_records.proofs.Numbered.{numbers_length, numbers_at}
use Rattle.edit_data.proofs.ClearedBlocks.{cleared_shape, next_fits, cleared_next}
use Rattle.edit_data.proofs.clear_blocks.Goals as goal

pub loop-k-init : goal.loop-k-init
unfolding clear_blocks part
loop-k-init c = let a = c.args in
    let e : a.start - a.start ≡ 0 = omega arith in
    (search rules, rw e refl)

pub clear_block-requires : goal.clear_block-requires
clear_block-requires c =
    let a = c.args in
    let few : a.end ≤ length (numbers_of a.list) = rw (numbers_length a.list) (omega arith) in
    rw (numbers_at a.list c.loop-k.k)
    (next_fits a.store.now (numbers_of a.list) a.start a.end c.requires.sound few c.requires.in_range c.loop-k.k c.loop-k.store
    (omega arith) (omega arith) c.loop-k.invariant.1)

pub loop-k-preserved : goal.loop-k-preserved
loop-k-preserved c =
    let a = c.args in
    let few : a.end ≤ length (numbers_of a.list) = rw (numbers_length a.list) (omega arith) in (
      c.loop-k.invariant.0,
      cleared_next a.store.now (numbers_of a.list) a.start a.end c.requires.sound few c.requires.in_range c.loop-k.k c.loop-k.store
          c.clear_block.new.store (omega arith) (omega arith) c.loop-k.invariant.1
          (rw (numbers_at a.list c.loop-k.k) at c.clear_block.ensures),
    )

pub shape_of-store : goal.shape_of-store
shape_of-store c =
    let a = c.args in
    let few : a.end ≤ length (numbers_of a.list) = rw (numbers_length a.list) (omega arith) in
    (cleared_shape a.store.now (numbers_of a.list) a.start a.end c.requires.sound few c.requires.in_range c.loop-k.k c.loop-k.store
    (omega arith) (omega arith) c.loop-k.invariant.1).long

pub returns : goal.returns
returns c = let e : c.loop-k.k ≡ c.args.end = omega arith in
    rw e at c.loop-k.invariant.1
