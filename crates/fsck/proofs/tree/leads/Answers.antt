use native.Mathlib.Omega.{arith}
use mathlib.Core.Path.{sym, ap, ◌∙◌}
use Prim.Native.Nat.{ℕ}
use Rattle.spec.specs.Room.{above}
use Rattle.fsck_objects.proofs.Passes.{told_true}
use Rattle.fsck_names.proofs.Parents.{named_live}
use Rattle.fsck.proofs.Steps.{positive, below_p, parents_by, leads_yes, marked_other, depth_next, known_set, depth_most}
use Rattle.fsck.proofs.tree.leads.Goals as goal

pub overflow_sub-mark : goal.overflow_sub-mark
overflow_sub-mark c = positive _ c.if-mark-ne0.true

pub bounds-depths-mark : goal.bounds-depths-mark
bounds-depths-mark c = let a = c.args in
    let s = a.store.now in
    let m = parents_by s a.p a.parents.now c.requires.framed c.requires.p_value c.requires.named_by in
    omega (arith, m.range a.o.0, m.most, c.from-mark.ensures, positive _ c.if-mark-ne0.true)

pub overflow_cast-depths : goal.overflow_cast-depths
overflow_cast-depths c = let a = c.args in
    let s = a.store.now in
    let m = parents_by s a.p a.parents.now c.requires.framed c.requires.p_value c.requires.named_by in
    omega (arith, m.most, c.if-depth-p.true)

pub returns-then-depth-p : goal.returns-then-depth-p
returns-then-depth-p c = let a = c.args in
    let s = a.store.now in
    let m = parents_by s a.p a.parents.now c.requires.framed c.requires.p_value c.requires.named_by in
    let h = below_p a.o.0 a.p _ c.requires.p_value c.requires.o_lt_p in
    let z = marked_other s a.p a.parents.now m a.o.0 c.from-mark.result c.from-mark.ensures
    c.if-mark-ne0.true in
    let d = depth_next s a.p a.parents.now m a.depths.now c.requires.known a.o.0
    c.from-mark.result c.from-depth.result c.requires.o_lt_p c.from-mark.ensures
    c.if-mark-ne0.true c.from-depth.ensures c.if-depth-ne0.true in
    let e = depth_most s a.p a.parents.now m a.o.0 c.from-depth.result d
    c.if-depth-p.true in
    told_true (record {
      known = known_set s a.p a.parents.now m a.depths.now c.requires.known a.o.0 c.from-depth.result
          c.requires.o_lt_p z d;
      named = named_live s c.requires.framed a.parents.now c.requires.named_by a.o.0 h z (λ q. c.if-mark-ne0.true (c.from-mark.ensures ∙ q));
      leads = leads_yes s a.o.0 (ap (λ (n : ℕ). above s n a.o.0) (sym c.requires.p_value) ∙ e);
    })

pub returns : goal.returns
returns c = c.leads_by_steps.ensures
