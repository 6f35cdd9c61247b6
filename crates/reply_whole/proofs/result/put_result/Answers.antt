use mathlib.Core.List.{append_assoc}
use native.Mathlib.Omega.{arith}
use Rattle.spec.specs.Replies.{result_bytes}
use Rattle.spec.specs.Rpc.{accepted}
use Rattle.laws.proofs.FileBytes.{read_file_length}
use Rattle.xdr.proofs.Wrote.{wrote_none, and_then, and_words, sized}
use Rattle.reply_whole.proofs.Joined.{join_words, join_parts, seven_joined}
use Rattle.reply_whole.proofs.result.put_result.Goals as goal

pub put_status_post_op_attr-requires-clause-at_in_bounds : goal.put_status_post_op_attr-requires-clause-at_in_bounds
put_status_post_op_attr-requires-clause-at_in_bounds c = omega arith

pub put_status_post_op_attr-requires-clause-showable : goal.put_status_post_op_attr-requires-clause-showable
put_status_post_op_attr-requires-clause-showable c = rw c.in-Failed.is at
    c.requires.writable

pub put_status_wcc_data-requires-clause-at_in_bounds : goal.put_status_wcc_data-requires-clause-at_in_bounds
put_status_wcc_data-requires-clause-at_in_bounds c = omega arith

pub put_status_wcc_data-requires-clause-showable : goal.put_status_wcc_data-requires-clause-showable
put_status_wcc_data-requires-clause-showable c = rw c.in-Changed.is at
    c.requires.writable

pub put_renamed-requires : goal.put_renamed-requires
put_renamed-requires c = let w = rw c.in-Renamed.is at c.requires.writable in
    record { at_in_bounds = omega arith; showable_change = w.0; showable_change_2 = w.1 }

pub put_linked-requires : goal.put_linked-requires
put_linked-requires c = let w = rw c.in-Linked.is at c.requires.writable in
    record { at_in_bounds = omega arith; showable_object = w.0; showable_change = w.1 }

pub put_got_attributes-requires-clause-at_in_bounds : goal.put_got_attributes-requires-clause-at_in_bounds
put_got_attributes-requires-clause-at_in_bounds c = omega arith

pub put_got_attributes-requires-clause-showable : goal.put_got_attributes-requires-clause-showable
put_got_attributes-requires-clause-showable c = rw c.in-GotAttributes.is at
    c.requires.writable

pub put_found-requires : goal.put_found-requires
put_found-requires c = let w = rw c.in-Found.is at c.requires.writable in
    record { at_in_bounds = omega arith; showable = w.0; showable_2 = w.1 }

pub put_status_post_op_attr-next-requires-clause-at_in_bounds : goal.put_status_post_op_attr-next-requires-clause-at_in_bounds
put_status_post_op_attr-next-requires-clause-at_in_bounds c = omega arith

pub put_status_post_op_attr-next-requires-clause-showable : goal.put_status_post_op_attr-next-requires-clause-showable
put_status_post_op_attr-next-requires-clause-showable c = rw c.in-Granted.is at
    c.requires.writable

pub put_status_post_op_attr-next-requires-in-GotBytes : goal.put_status_post_op_attr-next-requires-in-GotBytes
put_status_post_op_attr-next-requires-in-GotBytes c = let w = rw c.in-GotBytes.is at c.requires.writable in
    record { at_in_bounds = omega arith; showable = record { good = w.good; object = w.object } }

pub put_read_bytes-requires : goal.put_read_bytes-requires
put_read_bytes-requires c = let w = rw c.in-GotBytes.is at
    c.requires.writable in
    record { readable = w; n_in_bounds = omega (arith, w.few) }

pub put_status_wcc_data-next-requires-clause-at_in_bounds : goal.put_status_wcc_data-next-requires-clause-at_in_bounds
put_status_wcc_data-next-requires-clause-at_in_bounds c = omega arith

pub put_status_wcc_data-next-requires-clause-showable : goal.put_status_wcc_data-next-requires-clause-showable
put_status_wcc_data-next-requires-clause-showable c = rw c.in-Wrote.is at
    c.requires.writable

pub put_created-requires : goal.put_created-requires
put_created-requires c = let w = rw c.in-Created.is at c.requires.writable in
    record { at_in_bounds = omega arith; showable = w.0; showable_2 = w.1 }

pub put_status_post_op_attr-next-requires-in-Listed : goal.put_status_post_op_attr-next-requires-in-Listed
put_status_post_op_attr-next-requires-in-Listed c = let w = rw c.in-Listed.is at c.requires.writable in
    record { at_in_bounds = omega arith; showable = record { good = w.good; object = w.directory } }

pub put_listing-requires : goal.put_listing-requires
put_listing-requires c = let w = rw c.in-Listed.is at
    c.requires.writable in
    record { listable = w; o_in_bounds = omega (arith, w.few) }

pub put_status_post_op_attr-next-requires-in-GotRoom-clause-at_in_bounds : goal.put_status_post_op_attr-next-requires-in-GotRoom-clause-at_in_bounds
put_status_post_op_attr-next-requires-in-GotRoom-clause-at_in_bounds c = omega arith

pub put_status_post_op_attr-next-requires-in-GotRoom-clause-showable : goal.put_status_post_op_attr-next-requires-in-GotRoom-clause-showable
put_status_post_op_attr-next-requires-in-GotRoom-clause-showable c = rw c.in-GotRoom.is at
    c.requires.writable

pub put_status_post_op_attr-next-requires-in-GotLimits-clause-at_in_bounds : goal.put_status_post_op_attr-next-requires-in-GotLimits-clause-at_in_bounds
put_status_post_op_attr-next-requires-in-GotLimits-clause-at_in_bounds c = omega arith

pub put_status_post_op_attr-next-requires-in-GotLimits-clause-showable : goal.put_status_post_op_attr-next-requires-in-GotLimits-clause-showable
put_status_post_op_attr-next-requires-in-GotLimits-clause-showable c = rw c.in-GotLimits.is at
    c.requires.writable

pub put_status_post_op_attr-next-requires-in-GotNaming-clause-at_in_bounds : goal.put_status_post_op_attr-next-requires-in-GotNaming-clause-at_in_bounds
put_status_post_op_attr-next-requires-in-GotNaming-clause-at_in_bounds c = omega arith

pub put_status_post_op_attr-next-requires-in-GotNaming-clause-showable : goal.put_status_post_op_attr-next-requires-in-GotNaming-clause-showable
put_status_post_op_attr-next-requires-in-GotNaming-clause-showable c = rw c.in-GotNaming.is at
    c.requires.writable

pub put_status_wcc_data-next-requires-in-Committed-clause-at_in_bounds : goal.put_status_wcc_data-next-requires-in-Committed-clause-at_in_bounds
put_status_wcc_data-next-requires-in-Committed-clause-at_in_bounds c = omega arith

pub put_status_wcc_data-next-requires-in-Committed-clause-showable : goal.put_status_wcc_data-next-requires-in-Committed-clause-showable
put_status_wcc_data-next-requires-in-Committed-clause-showable c = rw c.in-Committed.is at
    c.requires.writable

pub returns-in-Null : goal.returns-in-Null
unfolding accepted result_bytes
returns-in-Null c = let a = c.args in
    rw c.in-Null.is (sized _ (and_then c.put_head-at.ensures
    (wrote_none _ c.put_head-at.result (omega arith))))

pub returns-in-Dead : goal.returns-in-Dead
unfolding accepted result_bytes
returns-in-Dead c = rw c.in-Dead.is
    (sized _ (and_then c.put_head-at.ensures
    c.put_dead.ensures))

pub returns-in-Failed : goal.returns-in-Failed
unfolding accepted result_bytes
returns-in-Failed c = rw c.in-Failed.is
    (sized _ (and_then c.put_head-at.ensures
    c.put_status_post_op_attr.ensures))

pub returns-in-Changed : goal.returns-in-Changed
unfolding accepted result_bytes
returns-in-Changed c = rw c.in-Changed.is
    (sized _ (and_then c.put_head-at.ensures
    c.put_status_wcc_data.ensures))

pub returns-in-Renamed : goal.returns-in-Renamed
unfolding accepted result_bytes
returns-in-Renamed c = rw c.in-Renamed.is
    (sized _ (and_then c.put_head-at.ensures
    c.put_renamed.ensures))

pub returns-in-Linked : goal.returns-in-Linked
unfolding accepted result_bytes
returns-in-Linked c = rw c.in-Linked.is
    (sized _ (and_then c.put_head-at.ensures
    c.put_linked.ensures))

pub returns-in-GotAttributes : goal.returns-in-GotAttributes
unfolding accepted result_bytes
returns-in-GotAttributes c = rw c.in-GotAttributes.is
    (sized _ (and_then c.put_head-at.ensures
    c.put_got_attributes.ensures))

pub returns-in-Found : goal.returns-in-Found
unfolding accepted result_bytes
returns-in-Found c = rw c.in-Found.is
    (sized _ (and_then c.put_head-at.ensures
    c.put_found.ensures))

pub returns-in-Granted : goal.returns-in-Granted
unfolding accepted result_bytes
returns-in-Granted c = rw c.in-Granted.is
    (sized _ (and_then c.put_head-at.ensures
    (and_words _ _ c.put_status_post_op_attr-next.ensures c.put_word.ensures)))

pub returns-in-GotBytes : goal.returns-in-GotBytes
unfolding accepted result_bytes
returns-in-GotBytes c = rw (c.in-GotBytes.is, read_file_length)
    (sized _ (and_then c.put_head-at.ensures
    (join_words _ _ _ c.put_status_post_op_attr-next-in-GotBytes.ensures c.put_read_bytes.ensures)))

pub returns-in-Wrote : goal.returns-in-Wrote
unfolding accepted result_bytes
returns-in-Wrote c = rw c.in-Wrote.is
    (sized _ (and_then c.put_head-at.ensures
    (and_words _ _ c.put_status_wcc_data-next.ensures c.put_written.ensures)))

pub returns-in-Created : goal.returns-in-Created
unfolding accepted result_bytes
returns-in-Created c = rw c.in-Created.is
    (sized _ (and_then c.put_head-at.ensures
    c.put_created.ensures))

pub returns-in-Listed : goal.returns-in-Listed
unfolding accepted result_bytes
returns-in-Listed c = rw c.in-Listed.is
    (sized _ (and_then c.put_head-at.ensures
    (join_parts _ _ _ _ c.put_status_post_op_attr-next-in-Listed.ensures c.put_listing.ensures)))

pub returns-in-GotRoom : goal.returns-in-GotRoom
unfolding accepted result_bytes
returns-in-GotRoom c = rw (c.in-GotRoom.is, seven_joined)
    (sized _ (and_then c.put_head-at.ensures
    (and_words _ _ c.put_status_post_op_attr-next-in-GotRoom.ensures c.put_room.ensures)))

pub returns-in-GotLimits : goal.returns-in-GotLimits
unfolding accepted result_bytes
returns-in-GotLimits c = rw (c.in-GotLimits.is, append_assoc)
    (sized _ (and_then c.put_head-at.ensures
    (and_words _ _ c.put_status_post_op_attr-next-in-GotLimits.ensures c.put_limits.ensures)))

pub returns-in-GotNaming : goal.returns-in-GotNaming
unfolding accepted result_bytes
returns-in-GotNaming c = rw c.in-GotNaming.is
    (sized _ (and_then c.put_head-at.ensures
    (and_words _ _ c.put_status_post_op_attr-next-in-GotNaming.ensures c.put_naming.ensures)))

pub returns-in-Committed : goal.returns-in-Committed
unfolding accepted result_bytes
returns-in-Committed c = rw c.in-Committed.is
    (sized _ (and_then c.put_head-at.ensures
    (and_words _ _ c.put_status_wcc_data-next-in-Committed.ensures c.put_verifier.ensures)))
