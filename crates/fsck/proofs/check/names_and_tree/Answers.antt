use Rattle.kinds.specs.Numbers.{most_objects, most_name_records}
use Rattle.fsck_objects.proofs.Passes.{told_false}
use Rattle.fsck.proofs.Filled.{blank_of}
use Rattle.fsck.proofs.Verdict.{rest_by}
use Rattle.fsck.proofs.check.names_and_tree.Goals as goal

pub names_pass-requires-clause-framed : goal.names_pass-requires-clause-framed
names_pass-requires-clause-framed c = c.requires.framed

pub names_pass-requires-clause-p_value : goal.names_pass-requires-clause-p_value
names_pass-requires-clause-p_value c = c.requires.p_value

pub names_pass-requires-clause-count_value : goal.names_pass-requires-clause-count_value
names_pass-requires-clause-count_value c = c.requires.q_value

pub names_pass-requires-clause-blank : goal.names_pass-requires-clause-blank
names_pass-requires-clause-blank c = c.requires.blank

pub names_pass-requires-clause-blank_2 : goal.names_pass-requires-clause-blank_2
names_pass-requires-clause-blank_2 c = c.requires.blank_2

pub names_pass-requires-clause-blank_3 : goal.names_pass-requires-clause-blank_3
names_pass-requires-clause-blank_3 c = blank_of 256

pub names_pass-requires-clause-blank_4 : goal.names_pass-requires-clause-blank_4
names_pass-requires-clause-blank_4 c = blank_of most_name_records

pub names_pass-requires-clause-inside : goal.names_pass-requires-clause-inside
names_pass-requires-clause-inside c = c.requires.inside

pub returns-then-not-names_pass : goal.returns-then-not-names_pass
returns-then-not-names_pass c = told_false (c.names_pass.ensures.no (c.if-not-names_pass.true))

pub tree_passes-requires : goal.tree_passes-requires
tree_passes-requires c = let f = c.names_pass.ensures.yes (c.if-not-names_pass.false) in
    record { framed = c.requires.framed; p_value = c.requires.p_value; named_by = rw c.requires.q_value at f.named; blank = blank_of most_objects }

pub returns : goal.returns
returns c = let s = c.args.store.now in
    let f = rw c.requires.q_value at (c.names_pass.ensures.yes (c.if-not-names_pass.false)) in
    record {
      yes = λ e. rest_by s c.args.p _ _ _ _ _ c.requires.framed c.requires.p_value f (c.tree_passes.ensures.yes e);
      no =
          λ e. c.tree_passes.ensures.no e;
    }
