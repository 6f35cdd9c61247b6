use mathlib.Core.Path.{sym, ◌∙◌}
use Rattle.spec.specs.Procedures.{cut}
use Rattle.laws.proofs.Bytes.{part_length}
use Rattle.mount_spec.specs.Path.{enter}
use Rattle.mount_path.proofs.Walks.{entered_none, entered_some, checked_below}
use Rattle.mount_path.proofs.enter.Goals as goal

pub returns-then-name-eq0-clause-result_value : goal.returns-then-name-eq0-clause-result_value
returns-then-name-eq0-clause-result_value c = let a = c.args in
    let long = part_length a.call.now a.name.start a.name.length c.requires.length_in_bounds in
    sym (entered_none a.store.now a.o.0 (cut a.call.now a.name) (long ∙ c.if-name-eq0.true))

pub returns-then-not-is_directory-clause-result_value : goal.returns-then-not-is_directory-clause-result_value
unfolding enter
returns-then-not-is_directory-clause-result_value c = let a = c.args in
    let long = part_length a.call.now a.name.start a.name.length c.requires.length_in_bounds in
    let some = entered_some a.store.now a.o.0 (cut a.call.now a.name) (λ e. c.if-name-eq0.false (sym long ∙ e)) in
    rw (some, ← c.is_directory.ensures, c.if-not-is_directory.true)

pub returns-clause-result_value : goal.returns-clause-result_value
unfolding enter
returns-clause-result_value c = let a = c.args in
    let long = part_length a.call.now a.name.start a.name.length c.requires.length_in_bounds in
    let some = entered_some a.store.now a.o.0 (cut a.call.now a.name) (λ e. c.if-name-eq0.false (sym long ∙ e)) in
    rw (some, ← c.is_directory.ensures, c.if-not-is_directory.false) c.check_in.ensures

pub returns-clause-in_store : goal.returns-clause-in_store
returns-clause-in_store c = let a = c.args in
    checked_below a.store.now c.requires.good_records a.o.0 (cut a.call.now a.name) c.check_in.result c.requires.o_bound c.check_in.ensures
