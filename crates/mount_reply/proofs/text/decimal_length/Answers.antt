use mathlib.Core.Path.{refl}
use native.Mathlib.Omega.{arith}
use Rattle.mount_reply.proofs.Decimals.{decimal_one, decimal_two, decimal_three}
use Rattle.mount_reply.proofs.text.decimal_length.Goals as goal

pub returns-then-n-lt10 : goal.returns-then-n-lt10
returns-then-n-lt10 c = rw (decimal_one _ c.if-n-lt10.true) (refl, omega arith)

pub returns-then-n-lt100 : goal.returns-then-n-lt100
returns-then-n-lt100 c = rw (decimal_two _ c.if-n-lt10.false c.if-n-lt100.true) (refl, omega arith)

pub returns : goal.returns
returns c = rw (decimal_three _ c.if-n-lt100.false) (refl, omega arith)
