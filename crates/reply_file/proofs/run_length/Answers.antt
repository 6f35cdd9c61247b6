use Prim.Native.Nat.{◌+◌, ◌-◌, min}
use mathlib.Core.Path.{◌≡◌}
use lib.ListN.{get_or}
use Rattle.spec.specs.Image.{object_at}
use native.Mathlib.Omega.{arith}
use Rattle.reply_file.proofs.Files.{object_in_lem}
use Rattle.reply_file.proofs.Together.{first_run, run_few, next_run}
use Rattle.reply_file.proofs.run_length.Goals as goal

pub loop-run-init : goal.loop-run-init
loop-run-init c = let a = c.args in
    first_run a.store.now a.o.0 a.i a.left c.requires.readable c.requires.le_left

pub block_of-here-requires : goal.block_of-here-requires
block_of-here-requires c = let a = c.args in record { object_length_in_bounds = object_in_lem a.store.now a.o.0 0 c.requires.readable.good c.requires.readable.object; k_lt_file_blocks = omega (arith, run_few a.store.now a.o.0 a.i a.left c.requires.readable c.requires.le_left c.loop-run.k c.loop-run.run c.loop-run.invariant (omega arith)) }

pub overflow_add-k : goal.overflow_add-k
overflow_add-k c = let a = c.args in
    omega (arith, run_few a.store.now a.o.0 a.i a.left c.requires.readable c.requires.le_left c.loop-run.k c.loop-run.run c.loop-run.invariant (omega arith))

pub block_of-next-requires : goal.block_of-next-requires
block_of-next-requires c = let a = c.args in record {
  object_length_in_bounds = object_in_lem a.store.now a.o.0 0 c.requires.readable.good c.requires.readable.object;
  k_lt_file_blocks = run_few a.store.now a.o.0 a.i a.left c.requires.readable
      c.requires.le_left c.loop-run.k c.loop-run.run c.loop-run.invariant (omega arith);
}

pub returns-then-next-here : goal.returns-then-next-here
returns-then-next-here c = let a = c.args in
    let e : min c.loop-run.run a.left ≡ c.loop-run.run = omega arith in
    record { lower_bound = c.loop-run.invariant.some; upper_bound = omega arith; together = rw e at c.loop-run.invariant.together }

pub overflow_add-k-in-loop-run : goal.overflow_add-k-in-loop-run
overflow_add-k-in-loop-run c = let a = c.args in
    omega (arith, run_few a.store.now a.o.0 a.i a.left c.requires.readable c.requires.le_left c.loop-run.k c.loop-run.run c.loop-run.invariant (omega arith))

pub overflow_add-run : goal.overflow_add-run
overflow_add-run c = let a = c.args in
    omega (arith, c.loop-run.invariant.end, run_few a.store.now a.o.0 a.i a.left c.requires.readable c.requires.le_left c.loop-run.k c.loop-run.run c.loop-run.invariant (omega arith))

pub loop-run-preserved : goal.loop-run-preserved
loop-run-preserved c = let a = c.args in
    let n : get_or (object_at a.store.now a.o.0).blocks (c.loop-run.k + 1) 0 ≡ get_or (object_at a.store.now a.o.0).blocks c.loop-run.k 0 + 1 =
    omega (arith, c.block_of-here.ensures, c.block_of-next.ensures) in
    next_run a.store.now a.o.0 a.i a.left c.requires.readable c.requires.le_left c.loop-run.k c.loop-run.run c.loop-run.invariant (omega arith) n

pub returns : goal.returns
returns c = let a = c.args in
    let e : min c.loop-run.run a.left ≡ a.left = omega arith in
    record { lower_bound = c.requires.le_left; upper_bound = omega arith; together = rw e at c.loop-run.invariant.together }
