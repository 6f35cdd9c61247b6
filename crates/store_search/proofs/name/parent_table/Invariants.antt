use Rattle.store_search.proofs.Parents.{FilledFrom}
use Rattle.store_search.proofs.name.parent_table.Given as goal

abbrev pub invariant-loop-n : goal.invariant-loop-n
invariant-loop-n l = FilledFrom l.store l.n l.table
