use lib.Dec.{lit<}
use Rattle.spec.specs.Procedures.{cut}
use Rattle.spec.specs.Handles.{change}
use Rattle.laws.proofs.RecordRange.{below_part}
use Rattle.act_write.proofs.Written.{left_showable}
use Rattle.act_change.proofs.Made.{new_still}
use Rattle.act_change.proofs.names.make_new.Goals as goal

pub returns : goal.returns
unfolding change
returns c = let w = below_part 256 c.args.call.now c.args.name.start c.args.name.length (lit< tt)
    (λ k. (c.type_inv.call k).fits) in
    let h = new_still c.args.store.now c.args.context c.args.v c.args.size c.args.o.0 c.args.n.0 c.args.d.0
    (cut c.args.call.now c.args.name) c.requires.good_records c.requires.makable w in
    record {
      result = rw (c.before-earlier.ensures, c.new_edit.ensures);
      store = c.new_edit.ensures;
      writable = (left_showable _ _ _ _ h c.new_edit.ensures c.requires.makable.room.object_below, left_showable _ _ _ _ h c.new_edit.ensures c.requires.makable.below);
    }
