use mathlib.Core.Path.{sym, ◌∙◌}
use borrow.Author.Tests.{ne_eqb, eq-eqb}
use Rattle.fsck_objects.proofs.Whole.{free_parts}
use Rattle.fsck_objects.proofs.object.good_free.Goals as goal

pub returns-then-not-is_zero : goal.returns-then-not-is_zero
returns-then-not-is_zero c = let a = c.args in
    let z = rw c.object_start-at.ensures at c.is_zero.ensures in
    rw (free_parts a.store.now a.o.0, sym z ∙ c.if-not-is_zero.true)

pub returns-then-verifier_of-eq0 : goal.returns-then-verifier_of-eq0
returns-then-verifier_of-eq0 c = let a = c.args in
    let z = rw c.object_start-at.ensures at c.is_zero.ensures in
    rw (
      free_parts a.store.now a.o.0,
      sym z ∙ c.if-not-is_zero.false,
      ← c.verifier_of.ensures,
      eq-eqb _ _ c.if-verifier_of-eq0.true,
      ← c.exclusive_of.ensures,
    )

pub returns-else-verifier_of-eq0 : goal.returns-else-verifier_of-eq0
returns-else-verifier_of-eq0 c = let a = c.args in
    let z = rw c.object_start-at.ensures at c.is_zero.ensures in
    rw (
      free_parts a.store.now a.o.0,
      sym z ∙ c.if-not-is_zero.false,
      ← c.verifier_of.ensures,
      ne_eqb _ _ c.if-verifier_of-eq0.false,
    )
