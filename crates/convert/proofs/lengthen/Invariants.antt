use Prim.Native.Nat.{◌-◌}
use Rattle.convert.proofs.Lengthened.{Begun}
use Rattle.convert.proofs.lengthen.Given as goal

abbrev pub invariant-loop-o : goal.invariant-loop-o
invariant-loop-o l = Begun l.old l.length l.p l.store l.o
