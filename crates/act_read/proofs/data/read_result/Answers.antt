use native.Mathlib.Omega.{arith}
use Rattle.spec.specs.Procedures.Data.{read_length, read_result}
use Rattle.store_records.proofs.Good.{size_few}
use Rattle.act_read.proofs.Writable.{readable}
use Rattle.act_read.proofs.data.read_result.Goals as goal

pub overflow_add-eof : goal.overflow_add-eof
unfolding read_length
overflow_add-eof c = omega (arith, size_few c.args.store.now c.requires.good_records c.args.o.0 c.requires.o_bound)

pub returns-clause-writable : goal.returns-clause-writable
unfolding read_result
returns-clause-writable c = readable c.args.store.now c.args.o.0 c.args.offset c.args.count _ c.requires.good_records c.requires.o_bound c.read_length-n.ensures
