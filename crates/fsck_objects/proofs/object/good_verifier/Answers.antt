use mathlib.Core.Path.{sym}
use mathlib.Core.Logic.{⊎_elim}
use mathlib.Core.Bool.{and-false, or-false, or-true}
use borrow.Author.Tests.{ne_eqb}
use Rattle.spec.specs.Check.{good_verifier}
use Rattle.fsck_objects.proofs.object.good_verifier.Goals as goal

pub returns-then-flag-eq0 : goal.returns-then-flag-eq0
unfolding good_verifier
returns-then-flag-eq0 c = rw (
  ← c.verifier_of-verifier.ensures,
  ← c.exclusive_of-flag.ensures,
  c.if-verifier-eq0.true,
  c.if-flag-eq0.true,
  or-true,
)

pub returns-then-flag-eq-KEPT_FLAG : goal.returns-then-flag-eq-KEPT_FLAG
unfolding good_verifier
returns-then-flag-eq-KEPT_FLAG c = rw (← c.kind_of.ensures, ← c.exclusive_of-flag.ensures, c.if-flag-eq-KEPT_FLAG.true) (sym (or-false _))

pub returns-else-flag-eq-KEPT_FLAG : goal.returns-else-flag-eq-KEPT_FLAG
unfolding good_verifier
returns-else-flag-eq-KEPT_FLAG c = rw (
  ← c.verifier_of-verifier.ensures,
  ← c.exclusive_of-flag.ensures,
  ne_eqb _ _ c.if-flag-eq-KEPT_FLAG.false,
)
    (⊎_elim (λ w. rw (ne_eqb c.exclusive_of-flag.result 0 w.1)) (λ w. rw (ne_eqb c.verifier_of-verifier.result 0 w, and-false)) c.else-verifier-eq0.either)
