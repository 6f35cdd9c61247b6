use borrow.Author.Tests.{eq-eqb, ne_eqb, le-leb, lt-leb}
use Rattle.spec.specs.Handles.{check_name}
use Rattle.laws.proofs.Bytes.{part_length}
use Rattle.check_handles.proofs.NameBytes.{part_range}
use Rattle.check_handles.proofs.text.check_name.Goals as goal

pub returns-then-n-eq0 : goal.returns-then-n-eq0
unfolding check_name
returns-then-n-eq0 c = rw (part_length _ _ _ c.requires, eq-eqb _ _ c.if-n-eq0.true)

pub returns-then-n-gt-MOST_NAME_BYTES : goal.returns-then-n-gt-MOST_NAME_BYTES
unfolding check_name
returns-then-n-gt-MOST_NAME_BYTES c = rw (part_length _ _ _ c.requires, ne_eqb _ _ c.if-n-eq0.false, lt-leb _ _ c.if-n-gt-MOST_NAME_BYTES.true)

pub returns-then-not-good_bytes : goal.returns-then-not-good_bytes
unfolding check_name
returns-then-not-good_bytes c = rw (
  part_length _ _ _ c.requires,
  ne_eqb _ _ c.if-n-eq0.false,
  le-leb _ _ c.if-n-gt-MOST_NAME_BYTES.false,
  ← part_range,
  ← c.good_bytes.ensures,
  c.if-not-good_bytes.true,
)

pub returns : goal.returns
unfolding check_name
returns c = rw (
  part_length _ _ _ c.requires,
  ne_eqb _ _ c.if-n-eq0.false,
  le-leb _ _ c.if-n-gt-MOST_NAME_BYTES.false,
  ← part_range,
  ← c.good_bytes.ensures,
  c.if-not-good_bytes.false,
)
