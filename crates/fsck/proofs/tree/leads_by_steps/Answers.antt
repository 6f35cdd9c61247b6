use mathlib.Core.Path.{sym, ap, ◌∙◌}
use Prim.Native.Nat.{ℕ}
use Rattle.fsck_objects.proofs.Passes.{told_true, told_false, fails_leads}
use borrow.Author.Tests.{not-true, not-false}
use Rattle.laws.proofs.Count.{by_bool}
use Rattle.spec.specs.Room.{is_live, above}
use Rattle.fsck_names.proofs.Parents.{root_named, named_live, named_free, unnamed_fails, marked_free_fails}
use Rattle.fsck.proofs.Steps.{below_p, parents_by, above_root, depth_most, leads_yes, leads_free, leads_no}
use Rattle.fsck.proofs.tree.leads_by_steps.Goals as goal

pub returns-then-i-eq0 : goal.returns-then-i-eq0
returns-then-i-eq0 c = let a = c.args in
    let s = a.store.now in
    let m = parents_by s a.p a.parents.now c.requires.framed c.requires.p_value c.requires.named_by in
    let h = below_p a.o.0 a.p _ c.requires.p_value c.requires.o_lt_p in
    told_true (record {
      known = c.requires.known;
      named = rw c.if-i-eq0.true (root_named s c.requires.framed a.parents.now c.requires.named_by);
      leads = rw c.if-i-eq0.true (leads_yes s 0 (rw (← c.requires.p_value) (above_root s a.p a.parents.now m)));
    })

pub returns-then-parents-i-eq0 : goal.returns-then-parents-i-eq0
returns-then-parents-i-eq0 c = let a = c.args in
    let s = a.store.now in
    let h = below_p a.o.0 a.p _ c.requires.p_value c.requires.o_lt_p in
    let z = c.if-i-eq0.false in
    record {
      yes = λ e. let f = sym c.is_live.ensures ∙ not-true _ e in
          record {
            known = c.requires.known;
            named = named_free s c.requires.framed a.parents.now c.requires.named_by a.o.0 z f;
            leads = leads_free s a.o.0 f;
          };
      no = λ e. unnamed_fails s c.requires.framed a.parents.now c.requires.named_by a.o.0 h z
          (sym c.is_live.ensures ∙ not-false _ e) c.if-parents-i-eq0.true;
    }

pub steps-count-requires : goal.steps-count-requires
steps-count-requires c = let a = c.args in
    let s = a.store.now in
    let m = parents_by s a.p a.parents.now c.requires.framed c.requires.p_value c.requires.named_by in
    record { parents = m; known = c.requires.known; o_lt_p = c.requires.o_lt_p }

pub returns-then-count-p : goal.returns-then-count-p
returns-then-count-p c = let a = c.args in
    let s = a.store.now in
    let h = below_p a.o.0 a.p _ c.requires.p_value c.requires.o_lt_p in
    told_false (by_bool (is_live s a.o.0)
    (λ v. fails_leads s a.o.0 h (leads_no s a.o.0 v
    (λ e. c.steps-count.ensures.lost c.if-count-p.true (ap (λ (n : ℕ). above s n a.o.0) c.requires.p_value ∙ e))))
    (marked_free_fails s c.requires.framed a.parents.now c.requires.named_by a.o.0 h c.if-parents-i-eq0.false))

pub note_steps-requires : goal.note_steps-requires
note_steps-requires c = let a = c.args in
    let s = a.store.now in
    let m = parents_by s a.p a.parents.now c.requires.framed c.requires.p_value c.requires.named_by in
    record { parents = m; known = c.requires.known; o_lt_p = c.requires.o_lt_p; count_le_p = c.if-count-p.false; depth = c.steps-count.ensures.found c.if-count-p.false }

pub returns : goal.returns
returns c = let a = c.args in
    let s = a.store.now in
    let m = parents_by s a.p a.parents.now c.requires.framed c.requires.p_value c.requires.named_by in
    let h = below_p a.o.0 a.p _ c.requires.p_value c.requires.o_lt_p in
    let d = c.steps-count.ensures.found c.if-count-p.false in
    let e = depth_most s a.p a.parents.now m a.o.0 c.steps-count.result d c.if-count-p.false in
    told_true (record {
      known = c.note_steps.ensures;
      named = named_live s c.requires.framed a.parents.now c.requires.named_by a.o.0 h
          c.if-i-eq0.false c.if-parents-i-eq0.false;
      leads = leads_yes s a.o.0 (ap (λ (n : ℕ). above s n a.o.0) (sym c.requires.p_value) ∙ e);
    })
