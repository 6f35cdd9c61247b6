use lib.ListN.{length-set}
use Rattle.kinds.specs.BlockNumbers.{numbers_of}
use Rattle.spec.specs.Image.{blocks}
use Rattle.spec.specs.Room.{is_free_block, free_blocks}
use Rattle.store_records.proofs.Numbered.{block_of, numbers_set}
use Rattle.store_blocks.proofs.Blocks.{listed_none, listed_hit, listed_miss, listed_skip, passing_same, listed_wanted, listed_all}
use borrow.Author.Tests.{eqb-true}
use native.Mathlib.Omega.{arith}
use mathlib.Core.Path.{refl, sym, ap, ◌∙◌}
use Prim.Native.Nat.{zero-le}
use Rattle.store_blocks.proofs.free_blocks.Goals as goal
use Rattle.store_blocks.proofs.free_blocks.Goals.{then-is_free_block, else-is_free_block}

pub loop-i-init : goal.loop-i-init
loop-i-init c = (zero-le, refl, listed_none _ _)

pub returns-then-k-wanted : goal.returns-then-k-wanted
unfolding free_blocks
returns-then-k-wanted c = let a = c.args in
    listed_wanted (is_free_block a.store.now) a.wanted c.loop-i.i c.loop-i.k (numbers_of c.loop-i.list) c.loop-i.invariant.2 (blocks a.store.now)
    (omega arith) c.if-k-wanted.true

pub all_used-requires-clause-shaped : goal.all_used-requires-clause-shaped
all_used-requires-clause-shaped c = c.requires.shaped

pub all_used-requires-clause-used_map : goal.all_used-requires-clause-used_map
all_used-requires-clause-used_map c = c.requires.used_map

pub all_used-requires-clause-group_bound : goal.all_used-requires-clause-group_bound
all_used-requires-clause-group_bound c = omega arith

pub loop-i-preserved-then-all_used : goal.loop-i-preserved-then-all_used
loop-i-preserved-then-all_used c = let a = c.args in
    let p = is_free_block a.store.now in (
      omega arith,
      c.loop-i.invariant.1,
      listed_skip p a.wanted c.loop-i.i c.loop-i.k (numbers_of c.loop-i.list) c.loop-i.invariant.2 _
          (passing_same p c.loop-i.i _ (omega arith) (eqb-true _ _ (sym c.all_used.ensures ∙ c.if-all_used.true))),
    )

pub is_free_block-requires-clause-shaped : goal.is_free_block-requires-clause-shaped
is_free_block-requires-clause-shaped c = c.requires.shaped

pub is_free_block-requires-clause-used_map : goal.is_free_block-requires-clause-used_map
is_free_block-requires-clause-used_map c = c.requires.used_map

pub is_free_block-requires-clause-r_bound : goal.is_free_block-requires-clause-r_bound
is_free_block-requires-clause-r_bound c = omega arith

pub loop-i-preserved : goal.loop-i-preserved
loop-i-preserved c = let p = is_free_block c.args.store.now in (
  omega arith,
  elim c.if-is_free_block.branch [
    | then-is_free_block w ↦ rw w.list-is (simp length-set c.loop-i.invariant.1)
    | else-is_free_block w ↦ rw w.list-is c.loop-i.invariant.1
  ],
  elim c.if-is_free_block.branch [
    | then-is_free_block w ↦
        listed_hit p c.args.wanted c.loop-i.i c.loop-i.k (numbers_of c.loop-i.list) c.loop-i.invariant.2 _ _ c.requires.wanted_le_file_blocks
        c.if-k-wanted.false (sym c.is_free_block.ensures ∙ w.if-is_free_block.true)
        (ap numbers_of w.list-is ∙ numbers_set c.loop-i.list c.loop-i.k (block_of c.loop-i.i)) w.k-is
    | else-is_free_block w ↦
        listed_miss p c.args.wanted c.loop-i.i c.loop-i.k (numbers_of c.loop-i.list) c.loop-i.invariant.2 _ _
        (sym c.is_free_block.ensures ∙ w.if-is_free_block.false) (ap numbers_of w.list-is) w.k-is
  ],
)

pub returns : goal.returns
unfolding free_blocks
returns c = let a = c.args in
    listed_all (is_free_block a.store.now) a.wanted c.loop-i.i c.loop-i.k (numbers_of c.loop-i.list) c.loop-i.invariant.2 (blocks a.store.now) (omega arith)
