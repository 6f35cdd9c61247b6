use Rattle.std.proofs.Common.{arith}
use Rattle.wire.proofs.Numbers.{read_8}
use Rattle.wire.proofs.get_u64.Goals as goal

pub returns : goal.returns
returns c = omega (arith, read_8 c.args.s.now c.args.at c.requires)
