use mathlib.Core.Path.{sym, ◌∙◌}
use Rattle.spec.specs.Room.{is_regular}
use Rattle.fsck_names.proofs.named.most_names.Goals as goal

pub returns-then-is_regular : goal.returns-then-is_regular
unfolding is_regular
returns-then-is_regular c = rw (sym c.is_regular.ensures ∙ c.if-is_regular.true)

pub returns : goal.returns
unfolding is_regular
returns c = rw (sym c.is_regular.ensures ∙ c.if-is_regular.false)
