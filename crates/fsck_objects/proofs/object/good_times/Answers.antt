use borrow.Author.Tests.{lt-ltb, le-ltb}
use Rattle.spec.specs.Check.{good_time}
use Rattle.spec.specs.Image.{object_at, object_from, time_at}
use Rattle.fsck_objects.proofs.object.good_times.Goals as goal

pub returns-then-get_u32-ge-NANOSECONDS_END : goal.returns-then-get_u32-ge-NANOSECONDS_END
unfolding good_time object_at object_from time_at
returns-then-get_u32-ge-NANOSECONDS_END c = rw (← c.object_start-at.ensures, ← c.get_u32.ensures, le-ltb _ _ c.if-get_u32-ge-NANOSECONDS_END.true)

pub returns-then-get_u32-ge-NANOSECONDS_END-2 : goal.returns-then-get_u32-ge-NANOSECONDS_END-2
unfolding good_time object_at object_from time_at
returns-then-get_u32-ge-NANOSECONDS_END-2 c = rw (
  ← c.object_start-at.ensures,
  ← c.get_u32.ensures,
  lt-ltb _ _ c.if-get_u32-ge-NANOSECONDS_END.false,
  ← c.get_u32-2.ensures,
  le-ltb _ _ c.if-get_u32-ge-NANOSECONDS_END-2.true,
)

pub returns : goal.returns
unfolding good_time object_at object_from time_at
returns c = rw (
  ← c.object_start-at.ensures,
  ← c.get_u32.ensures,
  lt-ltb _ _ c.if-get_u32-ge-NANOSECONDS_END.false,
  ← c.get_u32-2.ensures,
  lt-ltb _ _ c.if-get_u32-ge-NANOSECONDS_END-2.false,
  ← c.get_u32-3.ensures,
)
