use Prim.Native.Nat.{◌≤◌}
use mathlib.Core.Path.{refl}
use native.Mathlib.Omega.{arith}
use Rattle.spec.specs.Handles.{change}
use Rattle.act_write.proofs.Written.{moved_bytes, no_bytes, some_bytes, none_moved, moved_length, written_left, left_showable}
use Rattle.act_write.proofs.write_checked.Goals as goal

pub returns-then-n-eq0 : goal.returns-then-n-eq0
unfolding change
returns-then-n-eq0 c = let n = c.smaller-n.result in
    rw (
      ← c.smaller-n.ensures,
      no_bytes _ _ _ _ _ (none_moved c.args.call.now c.args.bytes n c.if-n-eq0.true),
    )
    (record {
      result = rw c.unchanged.ensures;
      store = refl;
      writable =
          rw c.unchanged.ensures (record { good = c.requires.good_records; object = c.requires.o_bound });
    })

pub write_edit-requires : goal.write_edit-requires
write_edit-requires c = let n = c.smaller-n.result in
    let few : n ≤ c.args.bytes.length = rw c.smaller-n.ensures c.requires.most_transfer_bytes_bound in
    record { good_records = c.requires.good_records; used_map = c.requires.used_map; may_write = c.requires.may_write_some.some n c.smaller-n.ensures c.if-n-eq0.false; n_in_bounds = omega (arith, c.requires.length_in_bounds) }

pub returns : goal.returns
unfolding change
returns c = let n = c.smaller-n.result in
    let few : n ≤ c.args.bytes.length = rw c.smaller-n.ensures c.requires.most_transfer_bytes_bound in
    let some = c.if-n-eq0.false in
    let l = written_left c.args.call.now c.args.bytes n c.args.store.now c.args.context c.args.offset c.args.o.0
    some few c.requires.length_in_bounds (rw (← c.smaller-n.ensures) at c.requires.still_good) in
    rw (
      ← c.smaller-n.ensures,
      moved_bytes c.args.call.now c.args.bytes n few,
      some_bytes _ _ _ _ _ n (moved_length c.args.call.now c.args.bytes n c.requires.length_in_bounds few) some,
    )
    (record {
      result = rw (c.before-earlier.ensures, c.write_edit.ensures);
      store =
          c.write_edit.ensures;
      writable = left_showable _ _ _ _ l c.write_edit.ensures c.requires.o_bound;
    })
