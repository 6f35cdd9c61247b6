use Prim.Native.Nat.{◌*◌}
use lib.ListN.{take}
use Rattle.spec.specs.Bytes.{words}
use Rattle.xdr.specs.Wrote.{Wrote}
use Rattle.xdr.proofs.write.put_words.Given as goal

abbrev pub invariant-loop-w : goal.invariant-loop-w
invariant-loop-w l = Wrote (4 * l.w-index) l.initial.reply l.reply l.at l.next (words (take l.w-index l.ws))
