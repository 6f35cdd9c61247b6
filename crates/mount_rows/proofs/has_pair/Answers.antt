use mathlib.Core.Path.{sym, ap, ◌∙◌}
use Prim.Native.Nat.{ℕ, ◌+◌}
use borrow.Author.Tests.{eqb-true, eqb-false}
use Rattle.kinds.specs.Mount.{path_offset}
use Rattle.spec.specs.Bytes.{part, same_bytes}
use Rattle.spec.specs.Procedures.{cut}
use Rattle.laws.proofs.Bytes.{part_length}
use Rattle.laws.proofs.Count.{true_false}
use Rattle.mount_rows.proofs.Pairs.{other_host, other_length, by_bytes}
use Rattle.mount_rows.proofs.has_pair.Goals as goal
use Rattle.mount_rows.proofs.has_pair.Goals.{then-is_of_host, else-is_of_host}

pub returns-then-path_length-path : goal.returns-then-path_length-path
returns-then-path_length-path c = let a = c.args in
    let t = a.table.now in
    let path = cut a.call.now a.path in
    let n = a.path.length in
    let long = part_length a.call.now a.path.start n c.requires.length_in_bounds in
    elim c.if-is_of_host.branch [
      | then-is_of_host w ↦ c.compare_bytes.ensures.same_value ∙ ap (λ (at : ℕ). same_bytes (part t (at + path_offset) n) path) c.row_place.ensures.0
          ∙ by_bytes t a.host path a.r.0 n
          (sym c.is_of_host.ensures ∙ w.if-is_of_host.true)
          (sym w.path_length.ensures ∙ eqb-true _ _ (sym w.value-is ∙ c.if-path_length-path.true)) long
      | else-is_of_host w ↦ true_false (sym c.if-path_length-path.true ∙ w.value-is ∙ w.if-is_of_host.false)
    ]

pub returns-else-path_length-path : goal.returns-else-path_length-path
returns-else-path_length-path c = let a = c.args in
    let long = part_length a.call.now a.path.start a.path.length c.requires.length_in_bounds in
    elim c.if-is_of_host.branch [
      | then-is_of_host w ↦ c.if-path_length-path.false
          ∙ sym (other_length a.table.now a.host (cut a.call.now a.path) a.r.0
          (λ e. eqb-false _ _ (sym w.value-is ∙ c.if-path_length-path.false) (w.path_length.ensures ∙ e ∙ long)))
      | else-is_of_host w ↦ w.value-is ∙ w.if-is_of_host.false ∙ sym (other_host a.table.now a.host (cut a.call.now a.path) a.r.0 (sym c.is_of_host.ensures ∙ w.if-is_of_host.false))
    ]
