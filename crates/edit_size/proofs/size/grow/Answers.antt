use Prim.Native.Nat.{◌≤◌, zero-le}
use mathlib.Core.Path.{refl}
use native.Mathlib.Omega.{arith}
use Rattle.kinds.specs.BlockNumbers.{numbers_of}
use Rattle.spec.specs.Room.{need}
use Rattle.edit_size.proofs.Resized.{resizing, old_small, tail_kept, grown_range, grown}
use Rattle.edit_size.proofs.size.grow.Goals as goal

pub need-before-requires : goal.need-before-requires
need-before-requires c =
    let a = c.args in
    let r = resizing a.store.now a.o.0 a.size c.size_of-old.result (numbers_of c.blocks_of-own.result) (need c.size_of-old.result) (need a.size)
    c.requires.good_records c.requires.o_bound c.requires.o_value c.size_of-old.ensures c.blocks_of-own.ensures refl refl in
    old_small r

pub overflow_sub-after : goal.overflow_sub-after
overflow_sub-after c =
    let a = c.args in
    let r = resizing a.store.now a.o.0 a.size c.size_of-old.result (numbers_of c.blocks_of-own.result) c.need-before.result c.need-after.result
    c.requires.good_records c.requires.o_bound c.requires.o_value c.size_of-old.ensures c.blocks_of-own.ensures c.need-before.ensures
    c.need-after.ensures in
    let larger : c.size_of-old.result ≤ a.size = omega (arith, c.requires.o_bound_2, r.was) in
    omega (arith, r.had, r.gets)

pub free_blocks-added-requires-clause-shaped : goal.free_blocks-added-requires-clause-shaped
free_blocks-added-requires-clause-shaped c =
    c.requires.good_records.sound.shaped

pub free_blocks-added-requires-clause-wanted_le_file_blocks : goal.free_blocks-added-requires-clause-wanted_le_file_blocks
free_blocks-added-requires-clause-wanted_le_file_blocks c =
    let a = c.args in
    let r = resizing a.store.now a.o.0 a.size c.size_of-old.result (numbers_of c.blocks_of-own.result) c.need-before.result c.need-after.result
    c.requires.good_records c.requires.o_bound c.requires.o_value c.size_of-old.ensures c.blocks_of-own.ensures c.need-before.ensures
    c.need-after.ensures in
    omega (arith, r.had, r.gets, c.requires.size_le_most_file_bytes)

pub clear_tail-requires-clause-start_bound : goal.clear_tail-requires-clause-start_bound
clear_tail-requires-clause-start_bound c =
    let a = c.args in
    let r = resizing a.store.now a.o.0 a.size c.size_of-old.result (numbers_of c.blocks_of-own.result) c.need-before.result c.need-after.result
    c.requires.good_records c.requires.o_bound c.requires.o_value c.size_of-old.ensures c.blocks_of-own.ensures c.need-before.ensures
    c.need-after.ensures in
    omega (arith, r.was)

pub clear_tail-requires-clause-start_le_end : goal.clear_tail-requires-clause-start_le_end
clear_tail-requires-clause-start_le_end c =
    let a = c.args in
    let r = resizing a.store.now a.o.0 a.size c.size_of-old.result (numbers_of c.blocks_of-own.result) c.need-before.result c.need-after.result
    c.requires.good_records c.requires.o_bound c.requires.o_value c.size_of-old.ensures c.blocks_of-own.ensures c.need-before.ensures
    c.need-after.ensures in
    let larger : c.size_of-old.result ≤ a.size = omega (arith, c.requires.o_bound_2, r.was) in
    larger

pub overflow_sub-after-2 : goal.overflow_sub-after-2
overflow_sub-after-2 c =
    let a = c.args in
    let r = resizing a.store.now a.o.0 a.size c.size_of-old.result (numbers_of c.blocks_of-own.result) c.need-before.result c.need-after.result
    c.requires.good_records c.requires.o_bound c.requires.o_value c.size_of-old.ensures c.blocks_of-own.ensures c.need-before.ensures
    c.need-after.ensures in
    let larger : c.size_of-old.result ≤ a.size = omega (arith, c.requires.o_bound_2, r.was) in
    omega (arith, r.had, r.gets)

pub clear_blocks-requires : goal.clear_blocks-requires
clear_blocks-requires c =
    let a = c.args in
    let r = resizing a.store.now a.o.0 a.size c.size_of-old.result (numbers_of c.blocks_of-own.result) c.need-before.result c.need-after.result
    c.requires.good_records c.requires.o_bound c.requires.o_value c.size_of-old.ensures c.blocks_of-own.ensures c.need-before.ensures
    c.need-after.ensures in
    let larger : c.size_of-old.result ≤ a.size = omega (arith, c.requires.o_bound_2, r.was) in
    let k = tail_kept r _ _ c.clear_tail.new.store (omega arith) c.clear_tail.ensures in
    record {
      sound = k.sound;
      start_le_end = zero-le;
      end_le_file_blocks = omega (arith, r.gets, c.requires.size_le_most_file_bytes);
      in_range = grown_range r larger c.requires.o_bound_3 (numbers_of c.free_blocks-added.result) c.free_blocks-added.ensures
          c.clear_tail.new.store c.clear_tail.ensures;
    }

pub resized_blocks-requires-clause-before_le_file_blocks : goal.resized_blocks-requires-clause-before_le_file_blocks
resized_blocks-requires-clause-before_le_file_blocks c =
    let a = c.args in
    let r = resizing a.store.now a.o.0 a.size c.size_of-old.result (numbers_of c.blocks_of-own.result) c.need-before.result c.need-after.result
    c.requires.good_records c.requires.o_bound c.requires.o_value c.size_of-old.ensures c.blocks_of-own.ensures c.need-before.ensures
    c.need-after.ensures in
    omega (arith, r.had, old_small r)

pub resized_blocks-requires-clause-after_le_file_blocks : goal.resized_blocks-requires-clause-after_le_file_blocks
resized_blocks-requires-clause-after_le_file_blocks c =
    let a = c.args in
    let r = resizing a.store.now a.o.0 a.size c.size_of-old.result (numbers_of c.blocks_of-own.result) c.need-before.result c.need-after.result
    c.requires.good_records c.requires.o_bound c.requires.o_value c.size_of-old.ensures c.blocks_of-own.ensures c.need-before.ensures
    c.need-after.ensures in
    omega (arith, r.gets, c.requires.size_le_most_file_bytes)

pub save_size-requires : goal.save_size-requires
save_size-requires c =
    let w = c.requires.good_records.sound.shaped in
    omega (arith, c.requires.o_bound)

pub returns : goal.returns
returns c =
    let a = c.args in
    let r = resizing a.store.now a.o.0 a.size c.size_of-old.result (numbers_of c.blocks_of-own.result) c.need-before.result c.need-after.result
    c.requires.good_records c.requires.o_bound c.requires.o_value c.size_of-old.ensures c.blocks_of-own.ensures c.need-before.ensures
    c.need-after.ensures in
    let larger : c.size_of-old.result ≤ a.size = omega (arith, c.requires.o_bound_2, r.was) in
    grown r larger c.requires.o_bound_3 (numbers_of c.free_blocks-added.result) c.free_blocks-added.ensures
    c.clear_tail.new.store c.clear_blocks.new.store c.save_size.new.store (numbers_of c.resized_blocks.result)
    c.clear_tail.ensures c.clear_blocks.ensures c.resized_blocks.ensures c.save_size.ensures
