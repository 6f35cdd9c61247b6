use native.Mathlib.Omega.{arith}
use Rattle.spec.specs.Room.{byte_at}
use Rattle.store_records.proofs.block.byte_at.Goals as goal

pub block_start-requires : goal.block_start-requires
unfolding byte_at
block_start-requires c = omega (arith, c.block_of-r.ensures, c.requires.i_in_bounds)

pub overflow_add-result : goal.overflow_add-result
unfolding byte_at
overflow_add-result c = omega (arith, c.block_start.ensures, c.block_of-r.ensures, c.requires.i_in_bounds)

pub returns : goal.returns
unfolding byte_at
returns c = omega (arith, c.block_start.ensures, c.block_of-r.ensures)
