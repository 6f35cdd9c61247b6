use mathlib.Core.Path.{◌≡◌, sym, ap, ◌∙◌}
use native.Mathlib.Omega.{arith}
use Rattle.spec.specs.Edits.{resize}
use Rattle.spec.specs.Room.{size_of}
use Rattle.edit_size.proofs.Same.{resize_same}
use Rattle.edit_size.proofs.size.resize.Goals as goal

pub returns-then-size-old : goal.returns-then-size-old
returns-then-size-old c = let s = c.args.store.now in
    let o = c.args.o.0 in
    let same : c.args.size ≡ size_of s o = omega (arith, c.if-size-old.true, c.size_of-old.ensures) in
    sym (ap (resize s o) same ∙ resize_same s o c.requires.good_records c.requires.o_bound c.requires.o_value
    (λ k. (c.slice_known-1.given k).fits))

pub shrink-requires-clause-good_records : goal.shrink-requires-clause-good_records
shrink-requires-clause-good_records c = c.requires.good_records

pub shrink-requires-clause-o_bound : goal.shrink-requires-clause-o_bound
shrink-requires-clause-o_bound c = c.requires.o_bound

pub shrink-requires-clause-o_value : goal.shrink-requires-clause-o_value
shrink-requires-clause-o_value c = c.requires.o_value

pub shrink-requires-clause-size_bound : goal.shrink-requires-clause-size_bound
shrink-requires-clause-size_bound c = omega (arith, c.size_of-old.ensures, c.if-size-old-2.true)

pub returns-then-size-old-2 : goal.returns-then-size-old-2
returns-then-size-old-2 c = c.shrink.ensures

pub grow-requires-clause-good_records : goal.grow-requires-clause-good_records
grow-requires-clause-good_records c = c.requires.good_records

pub grow-requires-clause-used_map : goal.grow-requires-clause-used_map
grow-requires-clause-used_map c = c.requires.used_map

pub grow-requires-clause-o_bound : goal.grow-requires-clause-o_bound
grow-requires-clause-o_bound c = c.requires.o_bound

pub grow-requires-clause-o_value : goal.grow-requires-clause-o_value
grow-requires-clause-o_value c = c.requires.o_value

pub grow-requires-clause-o_bound_2 : goal.grow-requires-clause-o_bound_2
grow-requires-clause-o_bound_2 c = omega (arith, c.size_of-old.ensures, c.if-size-old-2.false)

pub grow-requires-clause-size_le_most_file_bytes : goal.grow-requires-clause-size_le_most_file_bytes
grow-requires-clause-size_le_most_file_bytes c = c.requires.size_le_most_file_bytes

pub grow-requires-clause-o_bound_3 : goal.grow-requires-clause-o_bound_3
grow-requires-clause-o_bound_3 c = c.requires.o_bound_2

pub returns : goal.returns
returns c = c.grow.ensures
