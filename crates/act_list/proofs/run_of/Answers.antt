use Prim.Native.Nat.{◌≤◌}
use mathlib.Core.Path.{sym, ap, ◌∙◌}
use native.Mathlib.Omega.{arith}
use Rattle.spec.specs.Image.{names}
use Rattle.spec.specs.Procedures.Listing.{named_entries}
use Rattle.act_list.specs.Run.{open_run, extended, run_of}
use Rattle.act_list.specs.declared.Run.{Run}
use Rattle.act_list.proofs.Runs.{extended_few, run_ended, run_open, behind_dots}
use Rattle.act_list.proofs.run_of.Goals as goal

pub extend-dots-requires : goal.extend-dots-requires
extend-dots-requires c = let a = c.args in
    let f : c.extend-dot.result.count ≤ 1 = rw c.extend-dot.ensures (extended_few a.given (open_run a.room 0) 1 1) in
    record { long_le_most_name_bytes = omega arith; count_bound = omega arith }

pub returns-then-dots : goal.returns-then-dots
returns-then-dots c = let a = c.args in
    let run = c.extend-dots.result in
    sym (run_ended a.given run (named_entries a.store.now a.d.0 (names a.store.now)) c.if-dots.true)
    ∙ behind_dots a.store.now a.d.0 a.given (open_run a.room 0) run
    (c.extend-dots.ensures ∙ ap (λ (r : Run). extended a.given r 2 2) c.extend-dot.ensures)

pub name_run-requires : goal.name_run-requires
name_run-requires c = let a = c.args in
    let f : c.extend-dot.result.count ≤ 1 = rw c.extend-dot.ensures (extended_few a.given (open_run a.room 0) 1 1) in
    let g : c.extend-dots.result.count ≤ 2 = rw c.extend-dots.ensures
    (omega (arith, extended_few a.given c.extend-dot.result 2 2)) in
    record { good_records = c.requires; count_bound = g }

pub returns : goal.returns
returns c = let a = c.args in
    let run = c.extend-dots.result in
    c.name_run.ensures ∙ ap (λ (r : Run). run_of a.given r (named_entries a.store.now a.d.0 (names a.store.now)))
    (run_open run c.if-dots.false)
    ∙ behind_dots a.store.now a.d.0 a.given (open_run a.room 0) run
    (c.extend-dots.ensures ∙ ap (λ (r : Run). extended a.given r 2 2) c.extend-dot.ensures)
