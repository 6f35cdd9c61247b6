use mathlib.Core.Path.{sym, ap, ◌∙◌}
use Rattle.laws.proofs.Valid.{shaped, shaped_framed}
use Rattle.fsck.proofs.Verdict.{shape_no, shape_yes, checked_bad, checked_records_bad, checked_good}
use Rattle.fsck.specs.declared.shape.Counts.{Counts}
use Rattle.fsck.proofs.check.check_store.Goals as goal

pub returns-in_err-counts : goal.returns-in_err-counts
returns-in_err-counts c = let a = c.args in
    rw c.from_residual.ensures (checked_bad a.store.now a.used.now (shape_no _ (sym c.shape.ensures ∙ c.in_err-counts.was)))

pub records_pass-requires : goal.records_pass-requires
records_pass-requires c = let s = c.args.store.now in
    let y = shape_yes s c.in_ok-counts.counts (sym c.shape.ensures ∙ c.in_ok-counts.was) in record { framed = shaped_framed s (shaped s y.0); p_value = ap (λ (x : Counts). x.objects) y.1; q_value = ap (λ (x : Counts). x.names) y.1; r_value = ap (λ (x : Counts). x.blocks) y.1; blank = c.requires.blank; blank_2 = c.requires.blank_2; blank_3 = c.requires.blank_3 }

pub returns-then-not-records_pass : goal.returns-then-not-records_pass
returns-then-not-records_pass c = let s = c.args.store.now in
    let y = shape_yes s c.in_ok-counts.counts (sym c.shape.ensures ∙ c.in_ok-counts.was) in
    checked_records_bad s _ y.0 (sym c.records_pass.ensures.is ∙ c.if-not-records_pass.true)

pub returns : goal.returns
returns c = let s = c.args.store.now in
    let k = c.in_ok-counts.counts in
    let y = shape_yes s k (sym c.shape.ensures ∙ c.in_ok-counts.was) in
    let t = sym c.records_pass.ensures.is ∙ c.if-not-records_pass.false in
    checked_good s k _ y.0 y.1 t (c.records_pass.ensures.map t)
