use mathlib.Core.Path.{refl}
use Prim.Native.Nat.{◌-◌}
use Rattle.convert.proofs.Lengthened.{begin, next, finish}
use Rattle.convert.proofs.lengthen.Goals as goal

pub loop-o-init : goal.loop-o-init
loop-o-init c = begin c.args.old.now _ c.args.p c.requires.p_in_bounds c.requires.p_in_bounds_2 c.args.store.now _ refl c.copy_bytes.ensures

pub loop-o-preserved : goal.loop-o-preserved
loop-o-preserved c = next c.args.old.now _ c.args.p c.requires.p_in_bounds c.requires.p_in_bounds_2 c.loop-o.store _ _ c.loop-o.o _ _ c.loop-o.invariant
    c.loop-o-test.true refl refl c.copy_bytes-in-loop-o.ensures c.clear_bytes.ensures

pub returns : goal.returns
returns c = finish c.args.old.now _ c.args.p c.requires.p_in_bounds c.requires.p_in_bounds_2 c.loop-o.store _ c.loop-o.o _ _ _ c.loop-o.invariant
    c.loop-o-test.false c.requires.p_value c.requires.p_in_bounds_3 refl refl refl c.copy_bytes-2.ensures
