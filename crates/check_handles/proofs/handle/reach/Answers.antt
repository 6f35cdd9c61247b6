use borrow.Author.Tests.{eq-eqb, ne_eqb, le-leb, lt-leb}
use Rattle.spec.specs.Handles.{reach}
use Rattle.laws.proofs.Bytes.{part_length}
use Rattle.check_handles.proofs.Reach.{handle_read}
use Rattle.check_handles.proofs.handle.reach.Goals as goal

pub returns-then-long-ne-HANDLE_BYTES : goal.returns-then-long-ne-HANDLE_BYTES
unfolding reach
returns-then-long-ne-HANDLE_BYTES c = rw (part_length _ _ _ c.requires.length_in_bounds, ne_eqb _ _ c.if-long-ne-HANDLE_BYTES.true)

pub returns-then-object_count-number : goal.returns-then-object_count-number
unfolding reach
returns-then-object_count-number c = let h = handle_read c.args.call.now c.args.h c.requires.length_in_bounds c.if-long-ne-HANDLE_BYTES.false in
    rw (h.long, h.object, ← c.object_count.ensures, ← c.get_u32-number.ensures, le-leb _ _ c.if-object_count-number.true)

pub returns-then-get_u32-stamp_of : goal.returns-then-get_u32-stamp_of
unfolding reach
returns-then-get_u32-stamp_of c = let h = handle_read c.args.call.now c.args.h c.requires.length_in_bounds c.if-long-ne-HANDLE_BYTES.false in
    rw (
      h.long,
      h.object,
      ← c.object_count.ensures,
      ← c.get_u32-number.ensures,
      lt-leb _ _ c.if-object_count-number.false,
      h.stamp,
      ← c.get_u32.ensures,
      ← c.stamp_of.ensures,
      ne_eqb _ _ c.if-get_u32-stamp_of.true,
    )

pub returns-then-not-is_live : goal.returns-then-not-is_live
unfolding reach
returns-then-not-is_live c = let h = handle_read c.args.call.now c.args.h c.requires.length_in_bounds c.if-long-ne-HANDLE_BYTES.false in
    rw (
      h.long,
      h.object,
      ← c.object_count.ensures,
      ← c.get_u32-number.ensures,
      lt-leb _ _ c.if-object_count-number.false,
      h.stamp,
      ← c.get_u32.ensures,
      ← c.stamp_of.ensures,
      eq-eqb _ _ c.if-get_u32-stamp_of.false,
      ← c.is_live.ensures,
      c.if-not-is_live.true,
    )

pub returns-then-get_u32-generation_of : goal.returns-then-get_u32-generation_of
unfolding reach
returns-then-get_u32-generation_of c = let h = handle_read c.args.call.now c.args.h c.requires.length_in_bounds
    c.if-long-ne-HANDLE_BYTES.false in
    rw (
      h.long,
      h.object,
      ← c.object_count.ensures,
      ← c.get_u32-number.ensures,
      lt-leb _ _ c.if-object_count-number.false,
      h.stamp,
      ← c.get_u32.ensures,
      ← c.stamp_of.ensures,
      eq-eqb _ _ c.if-get_u32-stamp_of.false,
      ← c.is_live.ensures,
      c.if-not-is_live.false,
      h.generation,
      ← c.get_u32-2.ensures,
      ← c.generation_of.ensures,
      ne_eqb _ _ c.if-get_u32-generation_of.true,
    )

pub returns : goal.returns
unfolding reach
returns c = let h = handle_read c.args.call.now c.args.h c.requires.length_in_bounds
    c.if-long-ne-HANDLE_BYTES.false in
    rw (
      h.long,
      h.object,
      ← c.object_count.ensures,
      ← c.get_u32-number.ensures,
      lt-leb _ _ c.if-object_count-number.false,
      h.stamp,
      ← c.get_u32.ensures,
      ← c.stamp_of.ensures,
      eq-eqb _ _ c.if-get_u32-stamp_of.false,
      ← c.is_live.ensures,
      c.if-not-is_live.false,
      h.generation,
      ← c.get_u32-2.ensures,
      ← c.generation_of.ensures,
      eq-eqb _ _ c.if-get_u32-generation_of.false,
    )
