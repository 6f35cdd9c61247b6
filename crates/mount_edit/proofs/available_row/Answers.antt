use Rattle.std.proofs.Common.{◌≡◌, ℕ, true, false, rules, tests}
use Rattle.std.proofs.Math.Bool.{not}
use Rattle.std.proofs.lemmas.Iterator.{first_from_Range}
use Rattle.kinds.specs.Mount.{rows}
use Rattle.mount_spec.specs.Table.{is_used_row, available_row}
use Rattle.mount_edit.proofs.Lowest.{found_lowest}
use Rattle.mount_edit.proofs.available_row.Goals as goal

pub returns : goal.returns
unfolding available_row
returns c =
    let p = λ (r : ℕ). not (is_used_row c.args.table.now r) in
    found_lowest p rows c.find.result c.map.result (first_from_Range _ _ _ _ (λ k. p k ≡ true) (λ k. p k ≡ false) c.find.ensures.ran (λ x q k. search (rules, tests)) (λ x q k. search (rules, tests))) (search rules)
