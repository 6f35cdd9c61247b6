use mathlib.Core.Path.{sym, ◌∙◌}
use native.Mathlib.Omega.{arith}
use Rattle.fsck_objects.proofs.Passes.{told_true, told_false, fails_name}
use Rattle.laws.proofs.Valid.{true_used, false_used}
use Rattle.fsck_names.specs.Distinct.{New}
use Rattle.fsck_names.proofs.Joins.{used_passes}
use Rattle.fsck_names.proofs.Chained.{chains_used}
use Rattle.fsck_names.proofs.Whole.{names_free, names_used}
use Rattle.fsck_names.proofs.names.name_passes.Goals as goal

pub record_passes-requires-clause-framed : goal.record_passes-requires-clause-framed
record_passes-requires-clause-framed c = c.requires.framed

pub record_passes-requires-clause-p_value : goal.record_passes-requires-clause-p_value
record_passes-requires-clause-p_value c = c.requires.p_value

pub record_passes-requires-clause-n_bound : goal.record_passes-requires-clause-n_bound
record_passes-requires-clause-n_bound c = c.requires.n_bound

pub record_passes-requires-clause-len_value : goal.record_passes-requires-clause-len_value
record_passes-requires-clause-len_value c = c.length_of-len.ensures

pub record_passes-requires-clause-inside : goal.record_passes-requires-clause-inside
record_passes-requires-clause-inside c = c.requires.inside

pub returns-then-not-record_passes : goal.returns-then-not-record_passes
returns-then-not-record_passes c = told_false (fails_name c.args.store.now c.args.n.0 c.requires.n_bound (sym c.record_passes.ensures ∙ c.if-not-record_passes.true))

pub returns-then-len-eq0 : goal.returns-then-len-eq0
returns-then-len-eq0 c = let a = c.args in
    let s = a.store.now in
    let g = sym c.record_passes.ensures ∙ c.if-not-record_passes.false in
    told_true (names_free s a.n.0 a.parents.now a.links.now a.head.now a.next.now c.requires.names_pass g
    (false_used s a.n.0 (sym c.length_of-len.ensures ∙ c.if-len-eq0.true)))

pub mark_child-requires : goal.mark_child-requires
mark_child-requires c = let s = c.args.store.now in
    let n = c.args.n.0 in
    let g = sym c.record_passes.ensures ∙ c.if-not-record_passes.false in
    let u = true_used s n (omega (arith, c.if-len-eq0.false, c.length_of-len.ensures)) in
    record { framed = c.requires.framed; p_value = c.requires.p_value; n_bound = c.requires.n_bound; used_name = used_passes s n c.requires.framed c.requires.n_bound u g; named_by = c.requires.names_pass.named; linked_by = c.requires.names_pass.linked }

pub returns-then-not-mark_child : goal.returns-then-not-mark_child
returns-then-not-mark_child c = told_false (c.mark_child.ensures.no (c.if-not-mark_child.true))

pub is_new-requires : goal.is_new-requires
is_new-requires c = let s = c.args.store.now in
    let n = c.args.n.0 in
    let g = sym c.record_passes.ensures ∙ c.if-not-record_passes.false in
    let u = true_used s n (omega (arith, c.if-len-eq0.false, c.length_of-len.ensures)) in
    let w : New s n c.hash_of-h.result = record {
      below = c.requires.n_bound;
      itself = used_passes s n c.requires.framed c.requires.n_bound u g;
      before = c.requires.names_pass.good;
      hashed = c.hash_of-h.ensures.0;
      small = c.hash_of-h.ensures.1;
    } in
    record { framed = c.requires.framed; p_value = c.requires.p_value; new = w; chains = c.requires.names_pass.chains }

pub returns-then-not-is_new : goal.returns-then-not-is_new
returns-then-not-is_new c = told_false (c.is_new.ensures.no (c.if-not-is_new.true))

pub returns : goal.returns
returns c = let a = c.args in
    let s = a.store.now in
    let g = sym c.record_passes.ensures ∙
    c.if-not-record_passes.false in
    let u = true_used s a.n.0 (omega (
      arith,
      c.if-len-eq0.false,
      c.length_of-len.ensures,
    ))
    in
    let m = c.mark_child.ensures.yes
    (c.if-not-mark_child.false) in
    let f = c.is_new.ensures.yes (c.if-not-is_new.false) in
    let k = chains_used s a.n.0 a.head.now a.next.now c.requires.names_pass.chains c.hash_of-h.result c.hash_of-h.ensures.0 c.hash_of-h.ensures.1
    (omega (arith, c.requires.framed.few_names, c.requires.n_bound)) u in
    told_true (names_used s a.n.0 a.parents.now a.links.now a.head.now a.next.now _ _ _ _ c.requires.names_pass g f
    (rw (c.put_first.ensures.0, c.put_first.ensures.1) k) m)
