use Rattle.std.proofs.Common.{ℕ, ap, ◌∙◌, arith, rules}
use lib.ListN.{replicate, length-replicate, length-take, length-drop}
use Rattle.wire.proofs.Overlaid.{written}
use Rattle.wire.proofs.clear_bytes.Goals as goal

pub returns : goal.returns
returns c = let a = c.args in
    written a.dst.now a.at _ _ _ (c.fill.ensures.after (λ y e. search rules) ∙ ap (λ (n : ℕ). replicate n 0) (simp (length-take, length-drop) (omega arith)))
    (length-replicate a.len 0 ∙ omega arith)
