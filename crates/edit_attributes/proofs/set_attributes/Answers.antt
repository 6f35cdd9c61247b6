use mathlib.Core.Path.{ap, ◌∙◌}
use Prim.Native.Nat.{◌+◌, ◌≤◌}
use native.Mathlib.Omega.{arith}
use lib.ListN.{length}
use Rattle.kinds.specs.Layout.{mode_offset}
use Rattle.spec.specs.Edits.{with_attributes}
use Rattle.spec.specs.Image.{times_bytes}
use Rattle.laws.proofs.Bytes.{overlay_length}
use Rattle.edit_attributes.proofs.Kept.{owner_length, owner_size, attributes_written}
use Rattle.edit_attributes.proofs.set_attributes.Goals as goal

pub overflow_add-at : goal.overflow_add-at
overflow_add-at c = omega (arith, c.object_start-at.ensures, c.requires)

pub overflow_add-at-2 : goal.overflow_add-at-2
overflow_add-at-2 c = omega
    (arith, c.object_start-at.ensures, c.requires)

pub save_times-requires : goal.save_times-requires
save_times-requires c = let s = c.args.store.now in
    let at = c.object_start-at.result in
    let inside : at + mode_offset + owner_length ≤ length s = omega (arith, c.object_start-at.ensures, c.requires) in
    let same = ap length c.save_owner.ensures ∙ overlay_length s (at + mode_offset) _ (rw owner_size inside) in
    omega (arith, c.object_start-at.ensures, c.requires, same)

pub returns : goal.returns
unfolding with_attributes times_bytes
returns c = let a = c.args in
    let s = a.store.now in
    rw (
      c.save_times.ensures,
      c.save_owner.ensures,
      c.object_start-at.ensures,
      c.time_set-mtime.ensures,
      c.mtime_of.ensures,
      c.time_set-atime.ensures,
      c.atime_of.ensures,
      c.number_set-gid.ensures,
      c.gid_of.ensures,
      c.number_set-uid.ensures,
      c.uid_of.ensures,
      c.number_set-mode.ensures,
      c.mode_of.ensures,
    )
    (attributes_written s a.o.0 (λ k. (c.slice_known-1.given k).fits) c.requires a.clock a.a)
