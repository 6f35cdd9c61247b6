use native.Mathlib.Omega.{arith}
use borrow.Author.Tests.{lt-ltb, le-ltb}
use Rattle.spec.specs.Edits.{remove_name}
use Rattle.laws.proofs.GoodRecords.{used_at}
use Rattle.laws.proofs.SetAttributes.{set_attributes_shape}
use Rattle.laws.proofs.Shape.{SameShape}
use Rattle.edit_entries.proofs.remove_name.Goals as goal

pub set_attributes-requires : goal.set_attributes-requires
set_attributes-requires c = let w = c.requires.good_records.sound.shaped in
    let child = (used_at c.args.store.now c.requires.good_records c.args.n.0 c.requires.n_bound c.requires.used).0 in
    omega (arith, c.name_child-o.ensures)

pub clear_name-requires : goal.clear_name-requires
clear_name-requires c = let s = c.args.store.now in
    let w = c.requires.good_records.sound.shaped in
    let child = (used_at s c.requires.good_records c.args.n.0 c.requires.n_bound c.requires.used).0 in
    let q = set_attributes_shape s c.args.clock c.name_child-o.result.0 c.only_ctime.result c.requires.good_records.sound
    (omega (arith, c.name_child-o.ensures)) in
    let e : SameShape s c.set_attributes.new.store = rw c.set_attributes.ensures q in
    omega arith

pub returns-then-naming_count-gt1 : goal.returns-then-naming_count-gt1
unfolding remove_name
returns-then-naming_count-gt1 c = rw (
  ← c.name_child-o.ensures,
  ← c.naming_count.ensures,
  lt-ltb _ _ c.if-naming_count-gt1.true,
  c.clear_name.ensures,
  c.set_attributes.ensures,
  c.only_ctime.ensures,
)

pub returns-else-naming_count-gt1 : goal.returns-else-naming_count-gt1
unfolding remove_name
returns-else-naming_count-gt1 c = rw (← c.name_child-o.ensures, ← c.naming_count.ensures, le-ltb _ _ c.if-naming_count-gt1.false, c.remove_object.ensures)
