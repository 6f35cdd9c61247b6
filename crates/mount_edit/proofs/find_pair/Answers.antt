use Rattle.std.proofs.Common.{◌≡◌, true, false, rules, tests}
use Rattle.std.proofs.lemmas.Iterator.{first_from_Range}
use Rattle.kinds.specs.Mount.{rows}
use Rattle.spec.specs.Procedures.{cut}
use Rattle.mount_spec.specs.Table.{has_pair, find_pair}
use Rattle.mount_edit.proofs.Lowest.{found_lowest}
use Rattle.mount_edit.proofs.find_pair.Goals as goal

pub returns : goal.returns
unfolding find_pair
returns c =
    let p = has_pair c.args.table.now c.args.host (cut c.args.call.now c.args.path) in
    found_lowest p rows c.find.result c.map.result (first_from_Range _ _ _ _ (λ k. p k ≡ true) (λ k. p k ≡ false) c.find.ensures.ran (λ x q k. search (rules, tests)) (λ x q k. search (rules, tests))) (search rules)
