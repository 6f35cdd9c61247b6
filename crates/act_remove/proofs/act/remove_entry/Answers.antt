use mathlib.Core.Path.{ap}
use Rattle.spec.specs.Results.{changed}
use Rattle.kinds.specs.declared.object.Change.{Change}
use Rattle.kinds.specs.Numbers.{OK}
use Rattle.results.proofs.Edited.{still_showable, change_made}
use Rattle.act_remove.proofs.act.remove_entry.Goals as goal

pub returns : goal.returns
returns c = let a = c.args in
    record {
      result = ap (λ (x : Change). changed OK x) (change_made a.store.now _ _ a.d _ c.before-earlier.ensures c.remove_edit.ensures);
      store = c.remove_edit.ensures;
      writable = still_showable a.store.now _ _ a.d.0 c.requires.still_good c.requires.removable_at.directory c.remove_edit.ensures;
    }
