use Rattle.std.proofs.Common.{arith}
use Rattle.laws.proofs.Bytes.{be_2}
use Rattle.wire.proofs.get_u16.Goals as goal

pub returns : goal.returns
returns c = omega (arith, be_2 c.args.s.now c.args.at c.requires)
