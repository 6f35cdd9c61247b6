use borrow.Author.Tests.{le-leb, lt-leb, le-ltb, lt-ltb}
use Rattle.fsck_objects.specs.Objects.{good_fields}
use mathlib.Core.Path.{sym, ◌∙◌}
use mathlib.Core.Bool.{and-true, and-false}
use Rattle.fsck_objects.proofs.object.good_fields.Goals as goal

pub returns-then-generation_of-ge-SPENT_GENERATION : goal.returns-then-generation_of-ge-SPENT_GENERATION
unfolding good_fields
returns-then-generation_of-ge-SPENT_GENERATION c = rw (← c.generation_of.ensures, le-ltb _ _ c.if-generation_of-ge-SPENT_GENERATION.true)

pub returns-then-mode_of-gt-MOST_MODE : goal.returns-then-mode_of-gt-MOST_MODE
unfolding good_fields
returns-then-mode_of-gt-MOST_MODE c = rw (
  ← c.generation_of.ensures,
  lt-ltb _ _ c.if-generation_of-ge-SPENT_GENERATION.false,
  ← c.mode_of.ensures,
  lt-leb _ _ c.if-mode_of-gt-MOST_MODE.true,
)

pub returns-then-not-good_times : goal.returns-then-not-good_times
unfolding good_fields
returns-then-not-good_times c = rw (
  ← c.generation_of.ensures,
  lt-ltb _ _ c.if-generation_of-ge-SPENT_GENERATION.false,
  ← c.mode_of.ensures,
  le-leb _ _ c.if-mode_of-gt-MOST_MODE.false,
  sym c.good_times.ensures ∙ c.if-not-good_times.true,
)

pub returns-then-not-good_verifier : goal.returns-then-not-good_verifier
unfolding good_fields
returns-then-not-good_verifier c = rw (sym c.good_verifier.ensures ∙ c.if-not-good_verifier.true, and-false)

pub returns : goal.returns
unfolding good_fields
returns c = rw (
  ← c.good_size.ensures,
  sym c.good_verifier.ensures ∙ c.if-not-good_verifier.false,
  ← c.generation_of.ensures,
  lt-ltb _ _ c.if-generation_of-ge-SPENT_GENERATION.false,
  ← c.mode_of.ensures,
  le-leb _ _ c.if-mode_of-gt-MOST_MODE.false,
  sym c.good_times.ensures ∙ c.if-not-good_times.false,
  and-true,
)
