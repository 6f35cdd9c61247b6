use Prim.Native.Nat.{◌≤◌}
use mathlib.Core.Path.{refl}
use native.Mathlib.Omega.{arith}
use Rattle.kinds.specs.BlockNumbers.{numbers_of}
use Rattle.spec.specs.Room.{need}
use Rattle.edit_size.proofs.Resized.{resizing, old_small, tail_kept, shrunk_range, shrunk}
use Rattle.edit_size.proofs.size.shrink.Goals as goal

pub need-before-requires : goal.need-before-requires
need-before-requires c =
    let a = c.args in
    let r = resizing a.store.now a.o.0 a.size c.size_of-old.result (numbers_of c.blocks_of-own.result) (need c.size_of-old.result) (need a.size)
    c.requires.good_records c.requires.o_bound c.requires.o_value c.size_of-old.ensures c.blocks_of-own.ensures refl refl in
    old_small r

pub need-after-requires : goal.need-after-requires
need-after-requires c =
    let a = c.args in
    let r = resizing a.store.now a.o.0 a.size c.size_of-old.result (numbers_of c.blocks_of-own.result) (need c.size_of-old.result) (need a.size)
    c.requires.good_records c.requires.o_bound c.requires.o_value c.size_of-old.ensures c.blocks_of-own.ensures refl refl in
    omega (arith, old_small r, r.was, c.requires.size_bound)

pub clear_tail-requires-clause-start_le_end : goal.clear_tail-requires-clause-start_le_end
clear_tail-requires-clause-start_le_end c =
    let a = c.args in
    let r = resizing a.store.now a.o.0 a.size c.size_of-old.result (numbers_of c.blocks_of-own.result) c.need-before.result c.need-after.result
    c.requires.good_records c.requires.o_bound c.requires.o_value c.size_of-old.ensures c.blocks_of-own.ensures c.need-before.ensures
    c.need-after.ensures in
    let smaller : a.size ≤ c.size_of-old.result = omega (arith, c.requires.size_bound, r.was) in
    smaller

pub clear_blocks-requires : goal.clear_blocks-requires
clear_blocks-requires c =
    let a = c.args in
    let r = resizing a.store.now a.o.0 a.size c.size_of-old.result (numbers_of c.blocks_of-own.result) c.need-before.result c.need-after.result
    c.requires.good_records c.requires.o_bound c.requires.o_value c.size_of-old.ensures c.blocks_of-own.ensures c.need-before.ensures
    c.need-after.ensures in
    let smaller : a.size ≤ c.size_of-old.result = omega (arith, c.requires.size_bound, r.was) in
    let k = tail_kept r _ _ c.clear_tail.new.store smaller c.clear_tail.ensures in
    record {
      sound = k.sound;
      start_le_end = omega (arith, r.had, r.gets);
      end_le_file_blocks = omega (arith, r.had, old_small r);
      in_range = shrunk_range r smaller c.clear_tail.new.store c.clear_tail.ensures;
    }

pub overflow_cast-size : goal.overflow_cast-size
overflow_cast-size c =
    let a = c.args in
    let r = resizing a.store.now a.o.0 a.size c.size_of-old.result (numbers_of c.blocks_of-own.result) c.need-before.result c.need-after.result
    c.requires.good_records c.requires.o_bound c.requires.o_value c.size_of-old.ensures c.blocks_of-own.ensures c.need-before.ensures
    c.need-after.ensures in
    let smaller : a.size ≤ c.size_of-old.result = omega (arith, c.requires.size_bound, r.was) in
    omega (arith, old_small r)

pub resized_blocks-requires-clause-before_le_file_blocks : goal.resized_blocks-requires-clause-before_le_file_blocks
resized_blocks-requires-clause-before_le_file_blocks c =
    let a = c.args in
    let r = resizing a.store.now a.o.0 a.size c.size_of-old.result (numbers_of c.blocks_of-own.result) c.need-before.result c.need-after.result
    c.requires.good_records c.requires.o_bound c.requires.o_value c.size_of-old.ensures c.blocks_of-own.ensures c.need-before.ensures
    c.need-after.ensures in
    omega (arith, r.had, old_small r)

pub resized_blocks-requires-clause-after_le_file_blocks : goal.resized_blocks-requires-clause-after_le_file_blocks
resized_blocks-requires-clause-after_le_file_blocks c =
    let a = c.args in
    let r = resizing a.store.now a.o.0 a.size c.size_of-old.result (numbers_of c.blocks_of-own.result) c.need-before.result c.need-after.result
    c.requires.good_records c.requires.o_bound c.requires.o_value c.size_of-old.ensures c.blocks_of-own.ensures c.need-before.ensures
    c.need-after.ensures in
    let smaller : a.size ≤ c.size_of-old.result = omega (arith, c.requires.size_bound, r.was) in
    omega (arith, r.gets, old_small r)

pub save_size-requires : goal.save_size-requires
save_size-requires c =
    let w = c.requires.good_records.sound.shaped in
    omega (arith, c.requires.o_bound)

pub returns : goal.returns
returns c =
    let a = c.args in
    let r = resizing a.store.now a.o.0 a.size c.size_of-old.result (numbers_of c.blocks_of-own.result) c.need-before.result c.need-after.result
    c.requires.good_records c.requires.o_bound c.requires.o_value c.size_of-old.ensures c.blocks_of-own.ensures c.need-before.ensures
    c.need-after.ensures in
    let smaller : a.size ≤ c.size_of-old.result = omega (arith, c.requires.size_bound, r.was) in
    shrunk r smaller c.clear_tail.new.store c.clear_blocks.new.store c.save_size.new.store (numbers_of c.resized_blocks.result)
    c.clear_tail.ensures c.clear_blocks.ensures c.resized_blocks.ensures c.save_size.ensures
