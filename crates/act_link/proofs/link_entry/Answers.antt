use mathlib.Core.Path.{ap, ap₂}
use mathlib.Core.Option.{some}
use Rattle.kinds.specs.declared.object.Attributes.{Attributes}
use Rattle.kinds.specs.declared.object.Change.{Change}
use Rattle.kinds.specs.Numbers.{OK}
use Rattle.spec.specs.Handles.{attributes}
use Rattle.spec.specs.Image.{Store}
use Rattle.spec.specs.Procedures.{cut}
use Rattle.spec.specs.Procedures.Link.{link_edit}
use Rattle.spec.specs.Results.{linked}
use Rattle.results.proofs.Edited.{still_showable, change_made}
use Rattle.act_link.proofs.link_entry.Goals as goal

pub returns : goal.returns
returns c = let a = c.args in
    let t = link_edit a.store.now a.context a.o.0 a.d.0 a.n.0 (cut a.call.now a.name) in
    record {
      result = ap₂ (λ (x : Attributes) (y : Change). linked OK (some x) (some y)) (ap (λ (u : Store). attributes u a.o.0) c.link_edit.ensures)
          (change_made a.store.now t c.link_edit.new.store a.d _ c.before-earlier.ensures c.link_edit.ensures);
      store = c.link_edit.ensures;
      writable = (
        still_showable a.store.now _ _ a.o.0 c.requires.still_good c.requires.linkable_at.file c.link_edit.ensures,
        still_showable a.store.now _ _ a.d.0 c.requires.still_good c.requires.linkable_at.directory c.link_edit.ensures,
      );
    }
