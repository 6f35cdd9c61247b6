use mathlib.Core.Path.{sym, ◌∙◌}
use native.Mathlib.Omega.{arith}
use Rattle.fsck_objects.proofs.Passes.{told_true, told_false}
use Rattle.fsck_names.proofs.Parents.{child_root, child_many, child_further, child_marked}
use Rattle.fsck_names.proofs.named.mark_child.Goals as goal

pub returns-then-child-eq0 : goal.returns-then-child-eq0
returns-then-child-eq0 c = let a = c.args in
    told_false (child_root a.store.now c.requires.framed a.n.0 c.requires.n_bound c.requires.used_name (sym c.child_of-o.ensures ∙ c.if-child-eq0.true))

pub bounds-parents-child : goal.bounds-parents-child
bounds-parents-child c = let w = c.requires.used_name in
    omega (arith, w.child, c.child_of-o.ensures)

pub count_further-requires-clause-framed : goal.count_further-requires-clause-framed
count_further-requires-clause-framed c = c.requires.framed

pub count_further-requires-clause-o_bound : goal.count_further-requires-clause-o_bound
count_further-requires-clause-o_bound c = omega (arith, c.requires.used_name.child, c.child_of-o.ensures)

pub returns-then-parents-child-ne0 : goal.returns-then-parents-child-ne0
returns-then-parents-child-ne0 c = let a = c.args in
    record {
      yes = λ e. rw (c.count_further.ensures.map, e)
          (child_further a.store.now c.requires.framed a.n.0 c.requires.n_bound c.requires.used_name a.parents.now a.links.now c.requires.named_by c.requires.linked_by
          c.child_of-o.result.0 c.child_of-o.ensures c.if-child-eq0.false c.if-parents-child-ne0.true (sym e ∙ c.count_further.ensures.is));
      no = λ e. child_many a.store.now c.requires.framed a.n.0 c.requires.n_bound c.requires.used_name a.parents.now a.links.now c.requires.named_by c.requires.linked_by
          c.child_of-o.result.0 c.child_of-o.ensures c.if-child-eq0.false (sym e ∙ c.count_further.ensures.is);
    }

pub overflow_add-parents : goal.overflow_add-parents
overflow_add-parents c = let w = c.requires.used_name in
    omega (arith, w.directory, c.directory_of-directory.ensures)

pub overflow_cast-parents : goal.overflow_cast-parents
overflow_cast-parents c = let w = c.requires.used_name in
    omega (arith, w.directory, c.directory_of-directory.ensures)

pub bounds-parents-child-2 : goal.bounds-parents-child-2
bounds-parents-child-2 c = let w = c.requires.used_name in
    omega (arith, w.child, c.child_of-o.ensures)

pub bounds-links-child : goal.bounds-links-child
bounds-links-child c = let w = c.requires.used_name in
    omega (arith, w.child, c.child_of-o.ensures)

pub returns : goal.returns
returns c = let a = c.args in
    told_true (child_marked a.store.now c.requires.framed a.n.0 c.requires.n_bound c.requires.used_name a.parents.now a.links.now c.requires.named_by
    c.requires.linked_by c.child_of-o.result.0 c.child_of-o.ensures c.if-child-eq0.false c.directory_of-directory.result.0 c.directory_of-directory.ensures
    c.if-parents-child-ne0.false)
