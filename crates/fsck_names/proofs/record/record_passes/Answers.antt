use native.Mathlib.Omega.{arith}
use mathlib.Core.Path.{sym, ap, ◌∙◌}
use Prim.Native.Nat.{ℕ, ◌+◌, ◌*◌}
use Rattle.kinds.specs.Layout.{names_head, object_length, name_record_length}
use Rattle.spec.specs.Bytes.{part}
use Rattle.spec.specs.Check.{is_zero, good_name_record}
use Rattle.laws.proofs.Valid.{true_used, false_used}
use Rattle.fsck_names.proofs.Joins.{length_at}
use Rattle.fsck_names.proofs.record.record_passes.Goals as goal

pub is_free-requires : goal.is_free-requires
is_free-requires c = let a = c.args in record {
  name_record_length_in_bounds = omega arith;
  length_offset_value = sym (length_at a.store.now a.p a.n.0 _ c.requires.p_value c.name_place.ensures) ∙ sym c.requires.len_value
      ∙ c.if-len-eq0.true;
}

pub returns-then-len-eq0 : goal.returns-then-len-eq0
unfolding good_name_record
returns-then-len-eq0 c = let a = c.args in
    c.is_free.ensures ∙ ap (λ (k : ℕ). is_zero (part a.store.now k name_record_length))
    (c.name_place.ensures ∙ ap (λ (k : ℕ). names_head + object_length * k + name_record_length * a.n.0) c.requires.p_value)
    ∙ sym (rw (false_used a.store.now a.n.0 (sym c.requires.len_value ∙ c.if-len-eq0.true)))

pub good_used-requires-clause-framed : goal.good_used-requires-clause-framed
good_used-requires-clause-framed c = c.requires.framed

pub good_used-requires-clause-p_value : goal.good_used-requires-clause-p_value
good_used-requires-clause-p_value c = c.requires.p_value

pub good_used-requires-clause-n_bound : goal.good_used-requires-clause-n_bound
good_used-requires-clause-n_bound c = c.requires.n_bound

pub good_used-requires-clause-len_value : goal.good_used-requires-clause-len_value
good_used-requires-clause-len_value c = c.requires.len_value

pub good_used-requires-clause-le_len : goal.good_used-requires-clause-le_len
good_used-requires-clause-le_len c = omega arith

pub good_used-requires-clause-inside : goal.good_used-requires-clause-inside
good_used-requires-clause-inside c = c.requires.inside

pub returns : goal.returns
unfolding good_name_record
returns c = let a = c.args in
    c.good_used.ensures ∙ sym (rw (true_used a.store.now a.n.0 (omega (arith, c.if-len-eq0.false, c.requires.len_value))))
