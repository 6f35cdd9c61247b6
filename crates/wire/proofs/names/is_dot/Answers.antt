use Rattle.std.proofs.Common.{sym, ◌∙◌, ne_eqb}
use Rattle.wire.proofs.Dots.{dot_long, dot_one}
use Rattle.wire.proofs.names.is_dot.Goals as goal

pub returns-then-n-eq1 : goal.returns-then-n-eq1
returns-then-n-eq1 c = sym (dot_one c.args.s.now c.args.at c.args.n c.if-n-eq1.true c.requires)

pub returns-else-n-eq1 : goal.returns-else-n-eq1
returns-else-n-eq1 c = ne_eqb _ _ c.if-n-eq1.false ∙ sym (dot_long c.args.s.now c.args.at c.args.n c.if-n-eq1.false c.requires)
