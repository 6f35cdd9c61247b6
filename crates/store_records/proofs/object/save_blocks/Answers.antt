use native.Mathlib.Omega.{arith}
use native.Mathlib.Numerals.{add-one}
use mathlib.Core.Path.{◌≡◌, sym, ap, ◌∙◌}
use Prim.Native.Nat.{ℕ, ◌+◌, ◌*◌}
use lib.ListN.{get_or}
use Rattle.kinds.specs.BlockNumbers.{numbers_of}
use Rattle.kinds.specs.Numbers.{file_blocks}
use Rattle.spec.specs.Bytes.{bytes_of, overlay}
use Rattle.spec.specs.Image.{halves_bytes}
use Rattle.laws.proofs.Bytes.{overlay_more, overlay_none}
use Rattle.laws.proofs.Records.{halves_length}
use Rattle.store_records.proofs.Numbered.{numbers_at}
use Rattle.store_records.proofs.object.save_blocks.Goals as goal

pub loop-k-init : goal.loop-k-init
unfolding halves_bytes
loop-k-init c = sym (overlay_none _ _)

pub loop-k-preserved : goal.loop-k-preserved
unfolding halves_bytes
loop-k-preserved c = let a = c.args in
    let ns = numbers_of a.blocks in
    rw add-one
    (overlay_more a.store.now a.at (halves_bytes c.loop-k.k ns) (bytes_of 2 (get_or ns c.loop-k.k 0)) _ _ (2 * c.loop-k.k) (omega arith)
    (halves_length c.loop-k.k ns) c.loop-k.invariant
    (c.put_u16.ensures ∙ ap (λ (n : ℕ). overlay c.loop-k.store (a.at + 2 * c.loop-k.k) (bytes_of 2 n)) (numbers_at a.blocks c.loop-k.k)))

pub returns : goal.returns
returns c = let e : c.loop-k.k ≡ file_blocks = omega arith in
    rw e at c.loop-k.invariant
