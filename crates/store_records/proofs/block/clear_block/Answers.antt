use mathlib.Core.Path.{ap, ◌∙◌}
use Prim.Native.Nat.{ℕ}
use lib.ListN.{replicate}
use Rattle.kinds.specs.Layout.{block_length}
use Rattle.spec.specs.Bytes.{overlay}
use Rattle.store_records.proofs.block.clear_block.Goals as goal

pub returns : goal.returns
returns c = let a = c.args in
    c.clear_bytes.ensures ∙ ap (λ (q : ℕ). overlay a.store.now q (replicate block_length 0)) c.block_start-at.ensures
