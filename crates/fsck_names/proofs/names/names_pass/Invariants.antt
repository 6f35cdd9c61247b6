use Rattle.fsck_names.specs.Names.{NamesPass}
use Rattle.fsck_names.proofs.names.names_pass.Given as goal

abbrev pub invariant-loop-n : goal.invariant-loop-n
invariant-loop-n l = NamesPass l.store l.n l.parents l.links l.head l.next
