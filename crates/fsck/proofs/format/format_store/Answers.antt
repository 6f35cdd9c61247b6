use mathlib.Core.Path.{sym, ◌∙◌}
use Rattle.fsck.proofs.Laid.{asked, leaves_refused, leaves_done}
use Rattle.fsck.proofs.format.format_store.Goals as goal

pub returns-then-answer-ne-DONE : goal.returns-then-answer-ne-DONE
returns-then-answer-ne-DONE c = let a = c.args in
    leaves_refused a.store.now a.stamp a.objects a.names a.blocks a.clock c.answer_for-answer.result
    c.answer_for-answer.ensures c.if-answer-ne-DONE.true

pub write_store-requires : goal.write_store-requires
write_store-requires c = let a = c.args in
    let k = asked a.store.now a.stamp a.objects a.names a.blocks a.clock
    (sym c.answer_for-answer.ensures ∙ c.if-answer-ne-DONE.false) in
    record { le_p = k.least; p_le_most_objects = k.few; q_le_most_name_records = k.few_names; store_len = k.long }

pub returns : goal.returns
returns c = let a = c.args in
    leaves_done a.store.now a.stamp a.objects a.names a.blocks a.clock _
    (sym c.answer_for-answer.ensures ∙ c.if-answer-ne-DONE.false)
    c.write_store.ensures
