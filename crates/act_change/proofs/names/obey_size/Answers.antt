use Rattle.spec.specs.Handles.{change}
use Rattle.act_write.proofs.Written.{left_showable}
use Rattle.act_change.proofs.Made.{existing_still}
use Rattle.act_change.proofs.names.obey_size.Goals as goal

pub returns : goal.returns
unfolding change
returns c = let h = existing_still c.args.store.now c.args.context c.args.o.0 c.args.size c.requires.good_records c.requires.good_clock c.requires.sizable in
    record {
      result = rw (c.before-earlier.ensures, c.existing_edit.ensures);
      store = c.existing_edit.ensures;
      writable = (left_showable _ _ _ _ h c.existing_edit.ensures c.requires.sizable.below, left_showable _ _ _ _ h c.existing_edit.ensures c.requires.d_bound);
    }
