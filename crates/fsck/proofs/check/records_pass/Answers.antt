use mathlib.Core.Path.{sym, ◌∙◌}
use native.Mathlib.Omega.{arith}
use Rattle.fsck.proofs.Verdict.{records_bad, root_bad, records_told}
use Rattle.fsck.proofs.check.records_pass.Goals as goal

pub is_directory-requires : goal.is_directory-requires
is_directory-requires c = let t = c.requires.framed in
    omega (arith, t.some_object, t.inside)

pub returns-then-not-is_directory : goal.returns-then-not-is_directory
returns-then-not-is_directory c = root_bad c.args.store.now _ _ (sym c.is_directory.ensures ∙ c.if-not-is_directory.true)

pub objects_pass-requires-clause-framed : goal.objects_pass-requires-clause-framed
objects_pass-requires-clause-framed c = c.requires.framed

pub objects_pass-requires-clause-inside : goal.objects_pass-requires-clause-inside
objects_pass-requires-clause-inside c = c.inside_map-inside.ensures

pub objects_pass-requires-clause-count_value : goal.objects_pass-requires-clause-count_value
objects_pass-requires-clause-count_value c = c.requires.p_value

pub objects_pass-requires-clause-limit_value : goal.objects_pass-requires-clause-limit_value
objects_pass-requires-clause-limit_value c = c.requires.r_value

pub objects_pass-requires-clause-blank : goal.objects_pass-requires-clause-blank
objects_pass-requires-clause-blank c = c.requires.blank

pub returns-then-not-objects_pass : goal.returns-then-not-objects_pass
returns-then-not-objects_pass c = records_bad c.args.store.now _ _ (c.objects_pass.ensures.no (c.if-not-objects_pass.true))

pub names_and_tree-requires-clause-framed : goal.names_and_tree-requires-clause-framed
names_and_tree-requires-clause-framed c = c.requires.framed

pub names_and_tree-requires-clause-p_value : goal.names_and_tree-requires-clause-p_value
names_and_tree-requires-clause-p_value c = c.requires.p_value

pub names_and_tree-requires-clause-q_value : goal.names_and_tree-requires-clause-q_value
names_and_tree-requires-clause-q_value c = c.requires.q_value

pub names_and_tree-requires-clause-inside : goal.names_and_tree-requires-clause-inside
names_and_tree-requires-clause-inside c = c.inside_map-inside.ensures

pub names_and_tree-requires-clause-blank : goal.names_and_tree-requires-clause-blank
names_and_tree-requires-clause-blank c = c.requires.blank_2

pub names_and_tree-requires-clause-blank_2 : goal.names_and_tree-requires-clause-blank_2
names_and_tree-requires-clause-blank_2 c = c.requires.blank_3

pub returns : goal.returns
returns c = let g = sym c.is_directory.ensures ∙ c.if-not-is_directory.false in
    let o = rw c.requires.p_value at (c.objects_pass.ensures.yes (c.if-not-objects_pass.false)) in
    records_told c.args.store.now _ _ c.names_and_tree.result g o c.names_and_tree.ensures
