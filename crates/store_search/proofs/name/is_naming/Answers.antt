use mathlib.Core.Path.{sym, ◌∙◌}
use Rattle.spec.specs.Room.{is_used_name}
use Rattle.store_search.proofs.Named.{names_another, names_it, child_at, length_at}
use Rattle.store_search.proofs.name.is_naming.Goals as goal

pub returns-then-child-o : goal.returns-then-child-o
returns-then-child-o c = let a = c.args in
    let s = a.store.now in
    sym (names_another s a.o.0 a.n.0
    (λ e. c.if-child-o.true (c.get_u32-child.ensures ∙ child_at s a.o.0 a.n.0 a.at c.requires.at_value ∙ e)))

pub returns : goal.returns
unfolding is_used_name
returns c = let a = c.args in
    let s = a.store.now in
    let o = a.o.0 in
    let n = a.n.0 in
    let at = c.requires.at_value in
    rw (
      names_it s o n (sym (c.get_u32-child.ensures ∙ child_at s o n a.at at) ∙ c.if-child-o.false),
      ← length_at s o n a.at at,
      ← c.get_u32.ensures,
    )
