use Prim.Native.Nat.{◌-◌}
use mathlib.Core.List.{◌++◌}
use native.Mathlib.Omega.{arith}
use lib.ListN.{length-append}
use Rattle.kinds.specs.Layout.{mode_offset, uid_offset, gid_offset}
use Rattle.spec.specs.Bytes.{bytes_of}
use Rattle.laws.proofs.Bytes.{overlay_more, bytes_length}
use Rattle.edit_attributes.proofs.save_owner.Goals as goal

pub returns : goal.returns
returns c = let a = c.args in
    let two = overlay_more a.store.now a.at (bytes_of 4 a.mode) (bytes_of 4 a.uid) _ _ (uid_offset - mode_offset) (omega arith) (bytes_length 4 _)
    c.put_u32.ensures
    c.put_u32-2.ensures in
    overlay_more a.store.now a.at (bytes_of 4 a.mode ++ bytes_of 4 a.uid) (bytes_of 4 a.gid) _ _ (gid_offset - mode_offset) (omega arith)
    (simp (length-append, bytes_length)) two c.put_u32-3.ensures
