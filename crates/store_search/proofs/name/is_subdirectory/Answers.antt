use mathlib.Core.Path.{◌≡◌, sym, ap, ◌∙◌}
use mathlib.Core.Bool.{true, false, and-false, and-true}
use native.Mathlib.Omega.{arith}
use lib.Dec.{eqb}
use Rattle.spec.specs.Image.{name_at}
use Rattle.spec.specs.Room.{is_in, is_directory}
use Rattle.store_search.proofs.Named.{directory_at_lem, child_at, length_at, free_in, used_yes}
use Rattle.store_search.proofs.name.is_subdirectory.Goals as goal

pub returns-then-get_u32-eq0 : goal.returns-then-get_u32-eq0
returns-then-get_u32-eq0 c = let a = c.args in
    let s = a.store.now in
    rw (free_in s a.directory.0 a.n.0
    (sym (length_at s a.directory.0 a.n.0 a.at c.requires.at_value) ∙ sym c.get_u32.ensures ∙ c.if-get_u32-eq0.true))

pub is_directory-requires : goal.is_directory-requires
is_directory-requires c = let a = c.args in
    let s = a.store.now in
    let d = a.directory.0 in
    let n = a.n.0 in
    let used = used_yes s d n (λ e. c.if-get_u32-eq0.false (c.get_u32.ensures ∙ length_at s d n a.at c.requires.at_value ∙ e)) in
    omega (arith, c.requires.sound_names.child n c.requires.n_bound used, c.get_u32-2.ensures, child_at s d n a.at c.requires.at_value)

pub returns-then-not-is_directory : goal.returns-then-not-is_directory
returns-then-not-is_directory c = let a = c.args in
    let s = a.store.now in
    let d = a.directory.0 in
    let n = a.n.0 in
    let other : is_directory s (name_at s n).child ≡ false =
    ap (is_directory s) (sym (c.get_u32-2.ensures ∙ child_at s d n a.at c.requires.at_value)) ∙ sym
    c.is_directory.ensures ∙ c.if-not-is_directory.true in
    rw (other, and-false (is_in s d n))

pub returns : goal.returns
unfolding is_in
returns c = let a = c.args in
    let s = a.store.now in
    let d = a.directory.0 in
    let n = a.n.0 in
    let at = c.requires.at_value in
    let one : is_directory s (name_at s n).child ≡ true =
    ap (is_directory s) (sym (c.get_u32-2.ensures ∙ child_at s d n a.at at)) ∙ sym
    c.is_directory.ensures
    ∙ c.if-not-is_directory.false in
    rw (
      one,
      used_yes s d n (λ e. c.if-get_u32-eq0.false
          (c.get_u32.ensures ∙ length_at s d n a.at at ∙ e)),
      and-true (eqb (name_at s n).directory d),
      ← directory_at_lem s d n a.at at,
      ← c.get_u32-3.ensures,
    )
