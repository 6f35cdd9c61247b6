use native.Mathlib.Omega.{arith}
use Rattle.store_records.proofs.Good.{size_few}
use Rattle.store_attributes.proofs.used_bytes.Goals as goal

pub need-requires : goal.need-requires
need-requires c = omega (arith, size_few c.args.store.now c.requires.good_records c.args.o.0 c.requires.o_bound)

pub overflow_cast-result : goal.overflow_cast-result
overflow_cast-result c = omega (arith, size_few c.args.store.now c.requires.good_records c.args.o.0 c.requires.o_bound)
