use Prim.Native.Nat.{zero-le}
use native.Mathlib.Omega.{arith}
use Rattle.kinds.specs.BlockNumbers.{numbers_of}
use Rattle.kinds.specs.Objects.{free_object}
use Rattle.edit_names.proofs.RemovedObject.{Removing, child_below, child_record, child_size, child_range, freed_shape, removed}
use Rattle.edit_names.proofs.remove_object.Goals as goal

pub size_of-size-requires : goal.size_of-size-requires
size_of-size-requires c =
    let r : Removing c.args.store.now c.args.n.0 c.name_child-o.result.0 =
    record { good = c.requires.good_records; below = c.requires.n_bound; used = c.requires.used; child = c.name_child-o.ensures } in
    let w = r.good.sound.shaped in
    omega (arith, child_below r)

pub generation_of-generation-requires : goal.generation_of-generation-requires
generation_of-generation-requires c =
    let r : Removing c.args.store.now c.args.n.0 c.name_child-o.result.0 =
    record { good = c.requires.good_records; below = c.requires.n_bound; used = c.requires.used; child = c.name_child-o.ensures } in
    let w = r.good.sound.shaped in
    omega (arith, child_below r)

pub blocks_of-blocks-requires : goal.blocks_of-blocks-requires
blocks_of-blocks-requires c =
    let r : Removing c.args.store.now c.args.n.0 c.name_child-o.result.0 =
    record { good = c.requires.good_records; below = c.requires.n_bound; used = c.requires.used; child = c.name_child-o.ensures } in
    let w = r.good.sound.shaped in
    omega (arith, child_below r)

pub need-held-requires : goal.need-held-requires
need-held-requires c =
    let r : Removing c.args.store.now c.args.n.0 c.name_child-o.result.0 =
    record { good = c.requires.good_records; below = c.requires.n_bound; used = c.requires.used; child = c.name_child-o.ensures } in
    rw c.size_of-size.ensures (child_size r)

pub clear_blocks-requires : goal.clear_blocks-requires
clear_blocks-requires c =
    let r : Removing c.args.store.now c.args.n.0 c.name_child-o.result.0 =
    record { good = c.requires.good_records; below = c.requires.n_bound; used = c.requires.used; child = c.name_child-o.ensures } in
    record {
      sound = r.good.sound;
      start_le_end = zero-le;
      end_le_file_blocks = omega (arith, c.need-held.ensures, c.size_of-size.ensures, child_size r);
      in_range = child_range r (numbers_of c.blocks_of-blocks.result) c.size_of-size.result c.need-held.result c.blocks_of-blocks.ensures
          c.size_of-size.ensures c.need-held.ensures;
    }

pub overflow_add-generation : goal.overflow_add-generation
overflow_add-generation c =
    let r : Removing c.args.store.now c.args.n.0 c.name_child-o.result.0 =
    record { good = c.requires.good_records; below = c.requires.n_bound; used = c.requires.used; child = c.name_child-o.ensures } in
    omega (arith, c.generation_of-generation.ensures, (child_record r).generation)

pub clear_object-requires : goal.clear_object-requires
clear_object-requires c =
    let r : Removing c.args.store.now c.args.n.0 c.name_child-o.result.0 =
    record { good = c.requires.good_records; below = c.requires.n_bound; used = c.requires.used; child = c.name_child-o.ensures } in
    let w = r.good.sound.shaped in
    omega (arith, child_below r)

pub clear_name-requires : goal.clear_name-requires
clear_name-requires c =
    let r : Removing c.args.store.now c.args.n.0 c.name_child-o.result.0 =
    record { good = c.requires.good_records; below = c.requires.n_bound; used = c.requires.used; child = c.name_child-o.ensures } in
    let k = freed_shape r (numbers_of c.blocks_of-blocks.result) c.size_of-size.result c.need-held.result c.blocks_of-blocks.ensures
    c.size_of-size.ensures c.need-held.ensures c.clear_blocks.new.store c.clear_object.new.store (free_object _) c.clear_blocks.ensures
    c.clear_object.ensures in
    let w = r.good.sound.shaped in
    omega (arith, r.below)

pub returns : goal.returns
returns c =
    let r : Removing c.args.store.now c.args.n.0 c.name_child-o.result.0 =
    record { good = c.requires.good_records; below = c.requires.n_bound; used = c.requires.used; child = c.name_child-o.ensures } in
    removed r (numbers_of c.blocks_of-blocks.result) c.size_of-size.result c.need-held.result c.blocks_of-blocks.ensures
    c.size_of-size.ensures c.need-held.ensures
    c.clear_blocks.new.store c.clear_object.new.store c.clear_name.new.store c.generation_of-generation.result c.generation_of-generation.ensures
    c.clear_blocks.ensures c.clear_object.ensures c.clear_name.ensures
