use Prim.Native.Nat.{ℕ, ◌-◌, ◌+◌}
use mathlib.Core.List.{◌++◌}
use mathlib.Core.Path.{ap, ◌∙◌}
use native.Mathlib.Omega.{arith}
use lib.ListN.{length-append}
use Rattle.kinds.specs.Layout.{generation_offset, mode_offset, object_length}
use Rattle.spec.specs.Bytes.{overlay, bytes_of, zeros}
use Rattle.kinds.specs.Objects.{free_object}
use Rattle.spec.specs.Image.{object_bytes, put_object}
use Rattle.laws.proofs.Bytes.{overlay_more, bytes_length}
use Rattle.edit_names.proofs.RemovedObject.{free_bytes_lem}
use Rattle.edit_names.proofs.clear_object.Goals as goal

pub returns : goal.returns
unfolding put_object
returns c = let s = c.args.store.now in
    let g = c.args.generation in
    let at = c.object_start-at.result in
    let two = overlay_more s at (bytes_of 4 0) (bytes_of 4 g) _ _ generation_offset (omega (arith, c.object_start-at.ensures, c.requires)) (bytes_length 4 0)
    c.put_u32.ensures
    c.put_u32-2.ensures in
    overlay_more s at (bytes_of 4 0 ++ bytes_of 4 g) (zeros (object_length - mode_offset)) _ _ mode_offset (omega (arith, c.object_start-at.ensures, c.requires))
    (simp (length-append, bytes_length)) two c.clear_bytes.ensures
    ∙ ap (overlay s at) (free_bytes_lem g) ∙ ap (λ (k : ℕ). overlay s k (object_bytes (free_object g))) c.object_start-at.ensures
