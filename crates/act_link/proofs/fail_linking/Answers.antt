use mathlib.Core.Bool.{not}
use mathlib.Core.Path.{sym, ap, ◌∙◌}
use Rattle.spec.specs.Procedures.Link.{fail_linking}
use Rattle.act_link.proofs.Acts.{neither_shown, file_shown, directory_shown}
use Rattle.act_link.proofs.fail_linking.Goals.{else-is_none-via-then-is_none+else-is_none-2, else-is_none-via-else-is_none}
use Rattle.act_link.proofs.fail_linking.Goals as goal

pub returns-then-is_none-2-clause-result_value : goal.returns-then-is_none-2-clause-result_value
unfolding fail_linking
returns-then-is_none-2-clause-result_value c = rw (← c.handle_object-object.ensures.result_value, ← c.handle_change-change.ensures.result_value)
    (sym (neither_shown c.args.store.now c.args.status.0 _ _ (c.is_none.ensures ∙ ap not c.if-is_none.true)
    (c.is_none-then-is_none.ensures ∙ ap not c.if-is_none-2.true)))

pub returns-clause-result_value : goal.returns-clause-result_value
unfolding fail_linking
returns-clause-result_value c = rw (← c.handle_object-object.ensures.result_value, ← c.handle_change-change.ensures.result_value)
    (elim c.else-is_none.branch [
      | else-is_none-via-then-is_none+else-is_none-2 w ↦ sym (directory_shown c.args.store.now c.args.status.0 _ _
          (w.is_none-then-is_none.ensures ∙ ap not w.if-is_none-2.false))
      | else-is_none-via-else-is_none w ↦ sym (file_shown c.args.store.now c.args.status.0 _ _ (c.is_none.ensures ∙ ap not w.if-is_none.false))
    ])
