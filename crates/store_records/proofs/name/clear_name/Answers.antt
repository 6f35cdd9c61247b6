use mathlib.Core.Path.{ap, ◌∙◌}
use Prim.Native.Nat.{ℕ}
use lib.ListN.{replicate}
use Rattle.kinds.specs.Layout.{name_record_length}
use Rattle.spec.specs.Bytes.{overlay, bytes_of}
use Rattle.spec.specs.Image.{name_bytes, put_name}
use Rattle.store_records.proofs.name.clear_name.Goals as goal

pub returns : goal.returns
unfolding put_name name_bytes bytes_of
returns c = let a = c.args in
    c.clear_bytes.ensures ∙ ap (λ (q : ℕ). overlay a.store.now q (replicate name_record_length 0)) c.name_start-at.ensures
