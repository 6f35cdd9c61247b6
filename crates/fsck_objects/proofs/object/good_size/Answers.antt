use mathlib.Core.Path.{sym}
use borrow.Author.Tests.{ne_eqb, eq-eqb}
use Rattle.spec.specs.Check.{good_size}
use Rattle.spec.specs.Room.{size_of}
use mathlib.Core.Bool.{or-false}
use Rattle.fsck_objects.proofs.object.good_size.Goals as goal

pub returns-then-kind-eq-REGULAR : goal.returns-then-kind-eq-REGULAR
unfolding good_size size_of
returns-then-kind-eq-REGULAR c = rw (← c.kind_of-kind.ensures, ← c.size_of-size.ensures, c.if-kind-eq-REGULAR.true) (sym (or-false _))

pub returns-then-kind-eq-DIRECTORY : goal.returns-then-kind-eq-DIRECTORY
unfolding good_size size_of
returns-then-kind-eq-DIRECTORY c = rw (
  ← c.kind_of-kind.ensures,
  ← c.size_of-size.ensures,
  ne_eqb _ _ c.if-kind-eq-REGULAR.false,
  eq-eqb _ _ c.if-kind-eq-DIRECTORY.true,
)

pub returns-else-kind-eq-DIRECTORY : goal.returns-else-kind-eq-DIRECTORY
unfolding good_size size_of
returns-else-kind-eq-DIRECTORY c = rw (
  ← c.kind_of-kind.ensures,
  ← c.size_of-size.ensures,
  ne_eqb _ _ c.if-kind-eq-REGULAR.false,
  ne_eqb _ _ c.if-kind-eq-DIRECTORY.false,
)
