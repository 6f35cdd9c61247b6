use Rattle.std.proofs.Common.{sym, ◌∙◌}
use borrow.Author.Tests.{eqb-true}
use Rattle.wire.proofs.Dots.{dot_dot_long, dot_dot_two}
use Rattle.wire.proofs.names.is_dot_dot.Goals as goal
use Rattle.wire.proofs.names.is_dot_dot.Goals.{then-n-eq2, else-n-eq2}

pub returns-then-s-at-eq46 : goal.returns-then-s-at-eq46
returns-then-s-at-eq46 c =
    elim c.if-n-eq2.branch [
      | then-n-eq2 w ↦ rw (dot_dot_two c.args.s.now c.args.at c.args.n w.if-n-eq2.true c.requires, ← w.value-is, c.if-s-at-eq46.true)
      | else-n-eq2 w ↦ absurd (w.if-n-eq2.false (eqb-true _ _ (sym w.value-is ∙ c.if-s-at-eq46.true)))
    ]

pub returns-else-s-at-eq46 : goal.returns-else-s-at-eq46
returns-else-s-at-eq46 c =
    elim c.if-n-eq2.branch [
      | then-n-eq2 w ↦ rw (dot_dot_two c.args.s.now c.args.at c.args.n w.if-n-eq2.true c.requires, ← w.value-is, c.if-s-at-eq46.false)
      | else-n-eq2 w ↦ c.if-s-at-eq46.false ∙ sym (dot_dot_long c.args.s.now c.args.at c.args.n w.if-n-eq2.false c.requires)
    ]
