use mathlib.Core.Path.{refl}
use Rattle.act_change.specs.Makable.{Sizable}
use Rattle.act_change.proofs.attributes.resize_to.Goals as goal

pub returns-in_default : goal.returns-in_default
returns-in_default c = rw c.in_default.is

pub resize-requires : goal.resize-requires
resize-requires c = let p : Sizable c.args.store.now c.args.o.0 c.args.size = c.requires.sizable in
    let z = rw c.in-Some.is at p in
    record { good_records = c.requires.good_records; used_map = c.requires.used_map; o_bound = z.below; o_value = z.regular refl; size_le_most_file_bytes = z.small; o_bound_2 = z.room }

pub returns : goal.returns
returns c = rw c.in-Some.is c.resize.ensures
