use native.Mathlib.Omega.{arith}
use Rattle.act_write.proofs.Written.{record_inside}
use Rattle.act_change.proofs.Edited.{sized_still}
use Rattle.act_change.proofs.attributes.setattr_edit.Goals as goal

pub set_attributes-requires : goal.set_attributes-requires
set_attributes-requires c = let r = sized_still c.args.store.now c.args.o.0 c.args.a.size c.requires.good_records c.requires.sizable in
    record_inside c.args.store.now c.resize_to.new.store c.args.o.0 c.requires.good_records
    (rw c.resize_to.ensures r.shape) c.requires.sizable.below

pub forget_verifier-requires : goal.forget_verifier-requires
forget_verifier-requires c = let r = sized_still c.args.store.now c.args.o.0 c.args.a.size c.requires.good_records c.requires.sizable in
    let i = record_inside c.args.store.now c.resize_to.new.store c.args.o.0 c.requires.good_records
    (rw c.resize_to.ensures r.shape) c.requires.sizable.below in
    omega (arith, i)
