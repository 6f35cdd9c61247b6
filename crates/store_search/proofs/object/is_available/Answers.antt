use borrow.Author.Tests.{eq-eqb, ne_eqb}
use Rattle.spec.specs.Room.{is_available, is_live}
use Rattle.store_search.proofs.object.is_available.Goals as goal

pub returns-then-kind_of-ne-FREE : goal.returns-then-kind_of-ne-FREE
unfolding is_available is_live
returns-then-kind_of-ne-FREE c = rw (← c.kind_of.ensures, ne_eqb _ _ c.if-kind_of-ne-FREE.true)

pub returns : goal.returns
unfolding is_available is_live
returns c = rw (← c.kind_of.ensures, eq-eqb _ _ c.if-kind_of-ne-FREE.false, ← c.generation_of.ensures)
