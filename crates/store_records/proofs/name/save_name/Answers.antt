use mathlib.Core.Path.{ap, ◌∙◌}
use Prim.Native.Nat.{ℕ}
use Rattle.spec.specs.Bytes.{overlay}
use Rattle.spec.specs.Image.{name_bytes, put_name}
use Rattle.laws.proofs.Bytes.{part_length}
use Rattle.store_records.specs.Text.{name_of, text_of}
use Rattle.store_records.proofs.Runs.{name_run}
use native.Mathlib.Omega.{arith}
use Rattle.store_records.proofs.name.save_name.Goals as goal

pub returns : goal.returns
unfolding put_name
returns c = let a = c.args in
    let text = text_of a.call.now a.name in
    name_run a.store.now c.name_start-at.result a.directory.0 a.child.0 a.name.length text
    (part_length a.call.now a.name.start a.name.length c.requires.length_in_bounds) (omega (arith, c.name_start-at.ensures, c.requires.name_record_length_in_bounds))
    c.requires.length_le_most_name_bytes
    c.put_u32.new.s c.put_u32-2.new.s c.put_u32-3.new.s c.copy_bytes.new.dst c.clear_bytes.new.dst
    c.put_u32.ensures c.put_u32-2.ensures c.put_u32-3.ensures c.copy_bytes.ensures c.clear_bytes.ensures
    ∙ ap (λ (at : ℕ). overlay a.store.now at (name_bytes (name_of a.directory.0 a.child.0 text))) c.name_start-at.ensures
