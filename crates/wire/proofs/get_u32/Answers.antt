use Rattle.std.proofs.Common.{arith}
use Rattle.wire.proofs.Numbers.{read_4}
use Rattle.wire.proofs.get_u32.Goals as goal

pub returns : goal.returns
returns c = omega (arith, read_4 c.args.s.now c.args.at c.requires)
