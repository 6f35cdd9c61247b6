use mathlib.Core.Path.{ap₂}
use mathlib.Core.Option.{some}
use Rattle.spec.specs.Procedures.{cut}
use Rattle.spec.specs.Procedures.Removal.{rename_edit}
use Rattle.spec.specs.Results.{renamed}
use Rattle.kinds.specs.declared.object.Change.{Change}
use Rattle.kinds.specs.Numbers.{OK}
use Rattle.check_rename.specs.Meaning.{onto_of}
use Rattle.results.proofs.Edited.{still_showable, change_made}
use Rattle.act_remove.proofs.act.rename_entry.Goals as goal

pub returns : goal.returns
returns c = let a = c.args in
    record {
      result = ap₂ (λ (x y : Change). renamed OK (some x) (some y))
          (change_made a.store.now (rename_edit a.store.now a.context a.d.0 a.e.0 a.n.0 (onto_of a.onto)
          (cut a.call.now a.name))
          c.rename_edit.new.store a.d _ c.before-from.ensures c.rename_edit.ensures)
          (change_made a.store.now (rename_edit a.store.now a.context a.d.0 a.e.0 a.n.0 (onto_of a.onto)
          (cut a.call.now a.name))
          c.rename_edit.new.store a.e _ c.before-to.ensures c.rename_edit.ensures);
      store = c.rename_edit.ensures;
      writable = (
        still_showable a.store.now _ _ a.d.0 c.requires.still_good c.requires.d_bound c.rename_edit.ensures,
        still_showable a.store.now _ _ a.e.0 c.requires.still_good c.requires.e_bound c.rename_edit.ensures,
      );
    }
