use mathlib.Core.Path.{sym, ◌∙◌}
use Rattle.kinds.specs.Numbers.{most_blocks, most_objects}
use Rattle.fsck.proofs.Filled.{blank_of}
use Rattle.fsck.proofs.Verdict.{bad_fails, good_passes}
use Rattle.nfs3.proofs.Answered.{answer_bad, answer_good}
use Rattle.nfs3.proofs.nfs3_check.Goals as goal

pub check_store-found-requires-clause-blank : goal.check_store-found-requires-clause-blank
check_store-found-requires-clause-blank c = blank_of most_blocks

pub check_store-found-requires-clause-blank_2 : goal.check_store-found-requires-clause-blank_2
check_store-found-requires-clause-blank_2 c = blank_of most_objects

pub check_store-found-requires-clause-blank_3 : goal.check_store-found-requires-clause-blank_3
check_store-found-requires-clause-blank_3 c = blank_of most_objects

pub returns-in-None : goal.returns-in-None
returns-in-None c = let s = c.args.store.now in
    answer_bad s (bad_fails s (sym c.in-None.is ∙ c.check_store-found.ensures.is))

pub returns-in-Some : goal.returns-in-Some
returns-in-Some c = let s = c.args.store.now in
    answer_good s (good_passes s _ (sym c.in-Some.is ∙ c.check_store-found.ensures.is))
