use mathlib.Core.Path.{refl}
use native.Mathlib.Omega.{arith}
use Prim.Native.Nat.{◌+◌, ◌*◌}
use Rattle.kinds.specs.Layout.{objects_head, names_head, object_length, name_record_length}
use Rattle.fsck.proofs.Laid.{format_run}
use Rattle.fsck.proofs.format.write_store.Goals as goal

pub returns : goal.returns
returns c = let a = c.args in
    format_run a.store.now c.write_front.new.store
    c.put_u32.new.s c.put_u32-2.new.s a.stamp a.p a.q a.r
    (objects_head + object_length * a.p) (names_head + object_length * a.p + name_record_length * a.q) a.clock
    c.requires.le_p c.requires.store_len c.write_front.ensures refl
    (omega arith) c.put_u32.ensures c.put_u32-2.ensures
