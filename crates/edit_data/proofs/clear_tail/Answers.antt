use Prim.Native.Nat.{ℕ, ◌-◌, ◌%◌, min}
use mathlib.Core.Path.{◌≡◌, ap, ◌∙◌}
use native.Mathlib.Omega.{arith}
use borrow.Author.Tests.{eq-eqb, ne_eqb}
use Rattle.kinds.specs.Layout.{block_length}
use Rattle.spec.specs.Bytes.{overlay, zeros}
use Rattle.spec.specs.Edits.{clear_tail}
use Rattle.edit_data.proofs.ClearedTail.{tail_fits}
use Rattle.edit_data.proofs.clear_tail.Goals as goal

pub returns-then-inside-eq0 : goal.returns-then-inside-eq0
unfolding clear_tail
returns-then-inside-eq0 c = rw (eq-eqb _ _ c.if-inside-eq0.true)

pub byte_at-at-requires : goal.byte_at-at-requires
byte_at-at-requires c =
    let w = c.requires.good_records.sound.shaped in
    let f =
    tail_fits c.args.store.now c.args.o.0 c.args.start c.requires.good_records c.requires.o_bound c.requires.o_value c.requires.start_bound c.if-inside-eq0.false in
    record { object_length_in_bounds = omega (arith, c.requires.o_bound); i_lt_most_file_bytes = f.0; i_in_bounds = omega (arith, f.1) }

pub clear_bytes-requires : goal.clear_bytes-requires
clear_bytes-requires c =
    let f =
    tail_fits c.args.store.now c.args.o.0 c.args.start c.requires.good_records c.requires.o_bound c.requires.o_value c.requires.start_bound c.if-inside-eq0.false in
    omega (arith, f.1, c.byte_at-at.ensures)

pub returns-then-asked-rest : goal.returns-then-asked-rest
unfolding clear_tail
returns-then-asked-rest c = let a = c.args in
    let m : min (a.end - a.start) (block_length - a.start % block_length) ≡ a.end - a.start = omega arith in
    rw (ne_eqb _ _ c.if-inside-eq0.false, m)
    (c.clear_bytes.ensures ∙ ap (λ (k : ℕ). overlay a.store.now k (zeros (a.end - a.start)))
    c.byte_at-at.ensures)

pub clear_bytes-requires-2 : goal.clear_bytes-requires-2
clear_bytes-requires-2 c =
    let f =
    tail_fits c.args.store.now c.args.o.0 c.args.start c.requires.good_records c.requires.o_bound c.requires.o_value c.requires.start_bound c.if-inside-eq0.false in
    omega (arith, f.1, c.byte_at-at.ensures)

pub returns : goal.returns
unfolding clear_tail
returns c = let a = c.args in
    let m : min (a.end - a.start) (block_length - a.start % block_length) ≡ block_length - a.start % block_length = omega arith in
    rw (ne_eqb _ _ c.if-inside-eq0.false, m)
    (c.clear_bytes-2.ensures ∙ ap (λ (k : ℕ). overlay a.store.now k (zeros (block_length - a.start % block_length)))
    c.byte_at-at.ensures)
