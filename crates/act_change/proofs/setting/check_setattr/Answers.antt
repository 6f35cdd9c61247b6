use mathlib.Core.Path.{sym, ◌∙◌}
use native.Mathlib.Omega.{arith}
use Rattle.spec.specs.Procedures.{cut}
use Rattle.laws.proofs.SetAttributes.{allowed}
use Rattle.check_handles.proofs.Reach.{object_reached}
use Rattle.act_change.proofs.setting.check_setattr.Goals as goal

pub ctime_of-requires : goal.ctime_of-requires
ctime_of-requires c = let below = (object_reached c.args.store.now (cut c.args.call.now c.args.h) _ _ c.in_ok-o.was c.reach.ensures).below in
    omega arith

pub sizes_directory-requires : goal.sizes_directory-requires
sizes_directory-requires c = let below = (object_reached c.args.store.now (cut c.args.call.now c.args.h) _ _ c.in_ok-o.was c.reach.ensures).below in
    record { good_records = c.requires.good_records; o_bound = below }

pub lacks_room_for_size-requires : goal.lacks_room_for_size-requires
lacks_room_for_size-requires c = let below = (object_reached c.args.store.now (cut c.args.call.now c.args.h) _ _ c.in_ok-o.was c.reach.ensures).below in
    let small = (allowed c.args.a (sym c.bad_attributes.ensures ∙ c.if-bad_attributes.false)).size in
    record { good_records = c.requires.good_records; used_map = c.requires.used_map; o_bound = below; size_bound = small }
