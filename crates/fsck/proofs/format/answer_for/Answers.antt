use borrow.Author.Tests.{le-ltb, lt-ltb, lt-leb, le-leb, ne_eqb, eq-eqb}
use Rattle.spec.specs.Check.{good_counts}
use Rattle.fsck.specs.Format.{answer_for}
use Rattle.fsck.proofs.format.answer_for.Goals as goal

pub returns-then-nanoseconds-ge-NANOSECONDS_END : goal.returns-then-nanoseconds-ge-NANOSECONDS_END
unfolding answer_for good_counts
returns-then-nanoseconds-ge-NANOSECONDS_END c = rw (le-ltb _ _ c.if-nanoseconds-ge-NANOSECONDS_END.true)

pub returns-then-p-lt1 : goal.returns-then-p-lt1
unfolding answer_for good_counts
returns-then-p-lt1 c = rw (lt-ltb _ _ c.if-nanoseconds-ge-NANOSECONDS_END.false, lt-leb _ _ c.if-p-lt1.true)

pub returns-then-p-gt-MOST_OBJECTS : goal.returns-then-p-gt-MOST_OBJECTS
unfolding answer_for good_counts
returns-then-p-gt-MOST_OBJECTS c = rw (lt-ltb _ _ c.if-nanoseconds-ge-NANOSECONDS_END.false, le-leb _ _ c.if-p-lt1.false, lt-leb _ _ c.if-p-gt-MOST_OBJECTS.true)

pub returns-then-q-gt-MOST_NAME_RECORDS : goal.returns-then-q-gt-MOST_NAME_RECORDS
unfolding answer_for good_counts
returns-then-q-gt-MOST_NAME_RECORDS c = rw (
  lt-ltb _ _ c.if-nanoseconds-ge-NANOSECONDS_END.false,
  le-leb _ _ c.if-p-lt1.false,
  le-leb _ _ c.if-p-gt-MOST_OBJECTS.false,
  lt-leb _ _ c.if-q-gt-MOST_NAME_RECORDS.true,
)

pub returns-then-r-gt-MOST_BLOCKS : goal.returns-then-r-gt-MOST_BLOCKS
unfolding answer_for good_counts
returns-then-r-gt-MOST_BLOCKS c = rw (
  lt-ltb _ _ c.if-nanoseconds-ge-NANOSECONDS_END.false,
  le-leb _ _ c.if-p-lt1.false,
  le-leb _ _ c.if-p-gt-MOST_OBJECTS.false,
  le-leb _ _ c.if-q-gt-MOST_NAME_RECORDS.false,
  lt-leb _ _ c.if-r-gt-MOST_BLOCKS.true,
)

pub returns-then-length-p : goal.returns-then-length-p
unfolding answer_for good_counts
returns-then-length-p c = rw (
  lt-ltb _ _ c.if-nanoseconds-ge-NANOSECONDS_END.false,
  le-leb _ _ c.if-p-lt1.false,
  le-leb _ _ c.if-p-gt-MOST_OBJECTS.false,
  le-leb _ _ c.if-q-gt-MOST_NAME_RECORDS.false,
  le-leb _ _ c.if-r-gt-MOST_BLOCKS.false,
  ne_eqb _ _ c.if-length-p.true,
)

pub returns : goal.returns
unfolding answer_for good_counts
returns c = rw (
  lt-ltb _ _ c.if-nanoseconds-ge-NANOSECONDS_END.false,
  le-leb _ _ c.if-p-lt1.false,
  le-leb _ _ c.if-p-gt-MOST_OBJECTS.false,
  le-leb _ _ c.if-q-gt-MOST_NAME_RECORDS.false,
  le-leb _ _ c.if-r-gt-MOST_BLOCKS.false,
  eq-eqb _ _ c.if-length-p.false,
)
