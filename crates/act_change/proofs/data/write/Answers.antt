use mathlib.Core.Path.{sym, ap, ◌∙◌}
use Rattle.spec.specs.Procedures.{cut}
use Rattle.store_blocks.proofs.Ready.{ready_records}
use Rattle.check_handles.specs.Meaning.{reached_of}
use Rattle.laws.proofs.Passed.{write_passed}
use Rattle.act_change.proofs.Edited.{few_moved, write_writable, write_left}
use Rattle.act_change.proofs.data.write.Goals as goal

pub check_write-requires : goal.check_write-requires
check_write-requires c = let g = ready_records c.requires.ready in
    record { good_records = g; used_map = c.requires.ready.map; length_in_bounds = c.requires.length_in_bounds; length_in_bounds_2 = c.requires.length_in_bounds_2 }

pub write_checked-requires : goal.write_checked-requires
write_checked-requires c = let s = c.args.store.now in
    let call = c.args.call.now in
    let bytes = c.args.bytes in
    let g = ready_records c.requires.ready in
    let e = sym c.check_write.ensures ∙ ap reached_of c.in-Ok.is in
    let p = write_passed s (cut call c.args.h) c.args.offset c.args.count (cut call bytes) _ e in
    let few = few_moved call bytes c.args.count c.requires.length_in_bounds_2 p.counted in
    let left = write_left s c.args.context c.requires.ready.valid c.requires.ready.bytes c.requires.ready.clock call
    (λ k. (c.type_inv.call k).fits) c.args.h c.args.offset
    c.args.count bytes _ e in record {
      good_records = g;
      used_map = c.requires.ready.map;
      o_bound = p.reached.below;
      may_write_some = record {
        some = write_writable s (cut call c.args.h) c.args.offset c.args.count
            (cut call bytes) _ p;
      };
      length_in_bounds = c.requires.length_in_bounds_2;
      most_transfer_bytes_bound = few;
      still_good = left;
    }

pub fail_changing-requires : goal.fail_changing-requires
fail_changing-requires c = let g = ready_records c.requires.ready in
    record { good_records = g; length_in_bounds = c.requires.length_in_bounds }
