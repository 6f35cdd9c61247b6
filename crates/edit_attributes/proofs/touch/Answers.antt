use Prim.Native.Nat.{ℕ, ◌+◌}
use mathlib.Core.List.{◌++◌}
use mathlib.Core.Path.{◌≡◌, ap, ◌∙◌}
use native.Mathlib.Omega.{arith}
use Rattle.kinds.specs.Layout.{mtime_offset, ctime_offset, time_length}
use Rattle.spec.specs.Bytes.{overlay}
use Rattle.spec.specs.Image.{time_bytes}
use Rattle.laws.proofs.Bytes.{overlay_more}
use Rattle.edit_attributes.proofs.Kept.{time_length_lem, touched}
use Rattle.edit_attributes.proofs.touch.Goals as goal

pub returns : goal.returns
returns c = let s = c.args.store.now in
    let t = time_bytes c.args.clock in
    let at = c.object_start-at.result in
    let p : at + ctime_offset ≡ at + mtime_offset + time_length = omega arith in
    overlay_more s (at + mtime_offset) t t _ _ time_length (omega (arith, c.object_start-at.ensures, c.requires)) (time_length_lem c.args.clock)
    c.save_time.ensures
    (c.save_time-2.ensures ∙ ap (λ (k : ℕ). overlay c.save_time.new.store k t)
    p)
    ∙ ap (λ (k : ℕ). overlay s (k + mtime_offset) (t ++ t)) c.object_start-at.ensures
    ∙ touched s c.args.o.0 (λ k. (c.slice_known-1.given k).fits)
    c.requires c.args.clock
