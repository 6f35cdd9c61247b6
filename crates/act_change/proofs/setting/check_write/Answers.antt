use Prim.Native.Nat.{◌+◌}
use mathlib.Core.Path.{sym, ◌∙◌}
use borrow.Author.Tests.{eq-eqb, ltb-false, ne_eqb}
use Rattle.kinds.specs.Numbers.{most_file_bytes}
use Rattle.spec.specs.Procedures.Data.{check_write}
use Rattle.spec.specs.Procedures.{cut}
use Rattle.laws.proofs.Bytes.{part_length}
use Rattle.check_handles.proofs.Reach.{regular_reached}
use Rattle.act_change.proofs.setting.check_write.Goals as goal

pub returns-then-wanted-bytes : goal.returns-then-wanted-bytes
unfolding check_write
returns-then-wanted-bytes c = rw (
  ← c.reach_regular.ensures,
  c.in_ok-o.was,
  part_length _ _ _ c.requires.length_in_bounds_2,
  ne_eqb _ _ c.if-wanted-bytes.true,
)

pub returns-then-wanted-eq0 : goal.returns-then-wanted-eq0
unfolding check_write
returns-then-wanted-eq0 c = rw (
  ← c.reach_regular.ensures,
  c.in_ok-o.was,
  part_length _ _ _ c.requires.length_in_bounds_2,
  eq-eqb _ _ c.if-wanted-bytes.false,
  eq-eqb _ _ c.if-wanted-eq0.true,
)

pub returns-then-is_past_end : goal.returns-then-is_past_end
unfolding check_write
returns-then-is_past_end c = rw (
  ← c.reach_regular.ensures,
  c.in_ok-o.was,
  part_length _ _ _ c.requires.length_in_bounds_2,
  eq-eqb _ _ c.if-wanted-bytes.false,
  ne_eqb _ _ c.if-wanted-eq0.false,
  ← c.smaller-n.ensures,
  ← c.is_past_end.ensures,
  c.if-is_past_end.true,
)

pub lacks_room_for_bytes-requires : goal.lacks_room_for_bytes-requires
lacks_room_for_bytes-requires c = let below = (regular_reached c.args.store.now (cut c.args.call.now c.args.h) _ _
    c.in_ok-o.was
    c.reach_regular.ensures).0.below in record {
      good_records = c.requires.good_records;
      used_map = c.requires.used_map;
      o_bound = below;
      n_bound = ltb-false most_file_bytes (c.args.offset + c.smaller-n.result)
          (sym c.is_past_end.ensures ∙ c.if-is_past_end.false);
    }

pub returns-then-lacks_room_for_bytes : goal.returns-then-lacks_room_for_bytes
unfolding check_write
returns-then-lacks_room_for_bytes c = rw (
  ← c.reach_regular.ensures,
  c.in_ok-o.was,
  part_length _ _ _ c.requires.length_in_bounds_2,
  eq-eqb _ _ c.if-wanted-bytes.false,
  ne_eqb _ _ c.if-wanted-eq0.false,
  ← c.smaller-n.ensures,
  ← c.is_past_end.ensures,
  c.if-is_past_end.false,
  ← c.lacks_room_for_bytes.ensures,
  c.if-lacks_room_for_bytes.true,
)

pub returns : goal.returns
unfolding check_write
returns c = rw (
  ← c.reach_regular.ensures,
  c.in_ok-o.was,
  part_length _ _ _ c.requires.length_in_bounds_2,
  eq-eqb _ _ c.if-wanted-bytes.false,
  ne_eqb _ _ c.if-wanted-eq0.false,
  ← c.smaller-n.ensures,
  ← c.is_past_end.ensures,
  c.if-is_past_end.false,
  ← c.lacks_room_for_bytes.ensures,
  c.if-lacks_room_for_bytes.false,
)
