use mathlib.Core.Path.{sym, ap, ◌∙◌}
use native.Mathlib.Omega.{arith}
use Rattle.spec.specs.Image.{names}
use Rattle.spec.specs.Room.{is_naming, parent}
use Rattle.laws.proofs.Count.{lowest_passes}
use Rattle.store_search.specs.Found.{found_name}
use Rattle.store_search.proofs.name.parent_of.Goals as goal

pub name_directory-requires : goal.name_directory-requires
name_directory-requires c = let a = c.args in
    let e = sym c.find_naming.ensures ∙ ap found_name c.in-Some.is in
    let p = lowest_passes (is_naming a.store.now a.o.0) (names a.store.now) c.in-Some.n.0 e in
    omega arith

pub returns-in-Some : goal.returns-in-Some
unfolding parent
returns-in-Some c = rw (sym c.find_naming.ensures ∙ ap found_name c.in-Some.is) c.name_directory.ensures

pub returns-in-None : goal.returns-in-None
unfolding parent
returns-in-None c = rw (sym c.find_naming.ensures ∙ ap found_name c.in-None.is)
