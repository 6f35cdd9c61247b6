use Rattle.fsck.specs.Tree.{TreePasses}
use Rattle.fsck.proofs.tree.tree_passes.Given as goal

abbrev pub invariant-loop-o : goal.invariant-loop-o
invariant-loop-o l = TreePasses l.store l.p l.o l.depths
