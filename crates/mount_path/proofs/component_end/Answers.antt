use Rattle.std.proofs.Common.{◌≡◌, ◌+◌, refl, rules, tests}
use Rattle.std.specs.Prelude.{MatchOption}
use Rattle.std.proofs.lemmas.Iterator.{YieldsList-from_slice, IsFirst-from_position}
use Rattle.spec.specs.Bytes.{part}
use Rattle.mount_spec.specs.Path.{slash}
use Rattle.mount_path.specs.Steps.{Component}
use Rattle.mount_path.proofs.Splits.{ends_by}
use Rattle.mount_path.proofs.component_end.Goals as goal
use Rattle.mount_path.proofs.component_end.Goals.{After-position}

-- where the component ends, by what the search found
end_found : (c : After-position) → MatchOption c.position.result (Component c.args.call.now c.args.from c.args.end c.args.end) (λ n. Component c.args.call.now c.args.from c.args.end (c.args.from + n))
unfolding part
end_found c =
    let a = c.args in
    ends_by a.call.now a.from a.end c.requires.end_in_bounds _ c.requires.from_le_end refl c.position.result
    (IsFirst-from_position _ _ _ (λ x. x ≡ slash) (λ x. x ≡ slash → ⊥) c.position.ensures.ran (YieldsList-from_slice _ c.iter.ensures.rest) (λ x q k. search (rules, tests)) (λ x q k. search (rules, tests)))

pub returns-in-Some : goal.returns-in-Some
returns-in-Some c = rw c.in-Some.is at (end_found (goal.at.returns-in-Some c).After-position)

pub returns-in-None : goal.returns-in-None
returns-in-None c = rw c.in-None.is at (end_found (goal.at.returns-in-None c).After-position)
