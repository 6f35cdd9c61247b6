use mathlib.Core.Path.{sym, ◌∙◌}
use Rattle.spec.specs.Handles.{handle_change, change}
use Rattle.check_handles.proofs.Reach.{object_reached, object_showable}
use Rattle.check_handles.proofs.Shown.{found_object, no_change}
use Rattle.check_handles.proofs.failure.handle_change.Goals as goal

pub returns-in_err-o-clause-result_value : goal.returns-in_err-o-clause-result_value
unfolding handle_change
returns-in_err-o-clause-result_value c = rw (c.from_residual.ensures, ← c.reach.ensures, no_change c.args.store.now _ (sym c.ok.ensures.value ∙ c.in_err-o.was))

pub unchanged-requires-clause-o_bound : goal.unchanged-requires-clause-o_bound
unchanged-requires-clause-o_bound c = (object_reached _ _ _ _ (found_object _ _ (sym c.ok.ensures.value ∙ c.in_ok-o.was)) c.reach.ensures).below

pub returns-clause-result_value : goal.returns-clause-result_value
unfolding handle_change change
returns-clause-result_value c = rw (c.unchanged.ensures, ← c.reach.ensures, found_object _ _ (sym c.ok.ensures.value ∙ c.in_ok-o.was))

pub returns-clause-showable_change : goal.returns-clause-showable_change
returns-clause-showable_change c = rw c.unchanged.ensures (object_showable _ _ _ _ (found_object _ _ (sym c.ok.ensures.value ∙ c.in_ok-o.was)) c.requires.good_records c.reach.ensures)
