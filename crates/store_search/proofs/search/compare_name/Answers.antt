use mathlib.Core.Path.{sym, ap, ◌∙◌}
use Prim.Native.Nat.{ℕ, ◌+◌}
use native.Mathlib.Omega.{arith}
use Rattle.kinds.specs.Layout.{text_offset}
use Rattle.spec.specs.Bytes.{part, same_bytes, pairs}
use Rattle.laws.proofs.Bytes.{part_length}
use Rattle.store_records.specs.Text.{text_of}
use Rattle.store_search.proofs.Named.{directory_at_lem, length_at, elsewhere_apart, longer_apart, compared_bytes}
use Rattle.store_search.proofs.search.compare_name.Goals as goal

pub returns-then-owner-directory : goal.returns-then-owner-directory
returns-then-owner-directory c = let a = c.args in
    let s = a.store.now in
    let p = elsewhere_apart s a.directory.0 a.n.0 (text_of a.call.now a.name)
    (λ e. c.if-owner-directory.true (c.get_u32-owner.ensures ∙ directory_at_lem s a.directory.0 a.n.0 a.at c.requires.at_value ∙ e)) in
    record { same_value = sym p.0; pairs_value = sym p.1 }

pub returns-then-stated-name : goal.returns-then-stated-name
returns-then-stated-name c = let a = c.args in
    let s = a.store.now in
    let stated = length_at s a.directory.0 a.n.0 a.at c.requires.at_value in
    let long = part_length a.call.now a.name.start a.name.length c.requires.length_in_bounds in
    let p = longer_apart s a.directory.0 a.n.0 (text_of a.call.now a.name) (λ e. omega (arith, c.get_u32-stated.ensures)) in
    record { same_value = sym p.0; pairs_value = sym p.1 }

pub compare_bytes-requires : goal.compare_bytes-requires
compare_bytes-requires c = let a = c.args in
    let stated = length_at a.store.now a.directory.0 a.n.0 a.at c.requires.at_value in
    record { len_in_bounds = omega (arith, c.get_u32-stated.ensures); len_in_bounds_2 = c.requires.length_in_bounds }

pub returns : goal.returns
returns c = let a = c.args in
    let s = a.store.now in
    let d = a.directory.0 in
    let n = a.n.0 in
    let len = a.name.length in
    let text = text_of a.call.now a.name in
    let p = compared_bytes s d n text len
    (sym (directory_at_lem s d n a.at c.requires.at_value) ∙ sym c.get_u32-owner.ensures
    ∙ c.if-owner-directory.false)
    (sym (length_at s d n a.at c.requires.at_value) ∙ sym c.get_u32-stated.ensures ∙ c.if-stated-name.false)
    (part_length a.call.now a.name.start len c.requires.length_in_bounds) (λ e. absurd (omega arith)) in record { same_value = c.compare_bytes.ensures.same_value ∙ ap (λ (q : ℕ). same_bytes (part s (q + text_offset) len) text) c.requires.at_value ∙ p.0; pairs_value = c.compare_bytes.ensures.pairs_value ∙ ap (λ (q : ℕ). pairs (part s (q + text_offset) len) text) c.requires.at_value ∙ p.1 }
