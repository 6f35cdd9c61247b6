use mathlib.Core.Path.{◌≡◌}
use Prim.Native.Nat.{◌*◌, ◌≤◌}
use mathlib.Core.Bool.{true}
use lib.ListN.{length}
use Rattle.kinds.specs.Numbers.{file_blocks}
use Rattle.spec.specs.Count.{sum, every}
use Rattle.spec.specs.Room.{held}
use Rattle.spec.specs.Check.{good_object}
use Rattle.fsck_objects.specs.Objects.{MarkedBy}
use Rattle.fsck_blocks.proofs.objects.objects_pass.Given as goal

abbrev pub invariant-loop-o : goal.invariant-loop-o
invariant-loop-o l = (l.total ≡ sum l.o (λ i. length (held l.store i))) × (l.total ≤ file_blocks * l.o) × MarkedBy l.store l.o l.used × (every l.o (good_object l.store) ≡ true)
