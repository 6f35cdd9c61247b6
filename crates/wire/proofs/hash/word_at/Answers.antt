use Rattle.std.proofs.Common.{arith}
use Rattle.wire.proofs.WordLow.{word_low}
use Rattle.wire.proofs.hash.word_at.Goals as goal

pub returns : goal.returns
returns c = omega (arith, word_low c.args.s.now c.args.at c.requires)
