use native.Mathlib.Omega.{arith}
use mathlib.Core.Path.{sym, ◌∙◌}
use Prim.Native.Nat.{◌+◌}
use Rattle.kinds.specs.Layout.{text_offset}
use Rattle.fsck_names.proofs.Joins.{used_is}
use Rattle.fsck_names.proofs.NameLength.{name_long, part_long}
use Rattle.fsck_names.proofs.record.good_used.Goals as goal

pub returns-then-len-gt-MOST_NAME_BYTES : goal.returns-then-len-gt-MOST_NAME_BYTES
returns-then-len-gt-MOST_NAME_BYTES c = let a = c.args in
    let e = used_is a.store.now a.p a.n.0 a.len c.name_place-at.result c.requires.p_value c.requires.len_value
    c.name_place-at.ensures in
    sym (e ∙ rw (name_long _ (part_long a.store.now (c.name_place-at.result + text_offset) a.len (omega arith) (omega arith))))

pub good_text-requires-clause-most_name_bytes_in_bounds : goal.good_text-requires-clause-most_name_bytes_in_bounds
good_text-requires-clause-most_name_bytes_in_bounds c = omega arith

pub good_text-requires-clause-le_n : goal.good_text-requires-clause-le_n
good_text-requires-clause-le_n c = omega arith

pub good_text-requires-clause-n_le_most_name_bytes : goal.good_text-requires-clause-n_le_most_name_bytes
good_text-requires-clause-n_le_most_name_bytes c = omega arith

pub good_text-requires-clause-inside : goal.good_text-requires-clause-inside
good_text-requires-clause-inside c = c.requires.inside

pub returns-then-not-good_text : goal.returns-then-not-good_text
returns-then-not-good_text c = let a = c.args in
    let e = used_is a.store.now a.p a.n.0 a.len c.name_place-at.result c.requires.p_value c.requires.len_value
    c.name_place-at.ensures in
    sym (e ∙ rw (sym c.good_text.ensures ∙ c.if-not-good_text.true))

pub returns-then-not-is_directory_in : goal.returns-then-not-is_directory_in
returns-then-not-is_directory_in c = let a = c.args in
    let e = used_is a.store.now a.p a.n.0 a.len c.name_place-at.result c.requires.p_value
    c.requires.len_value c.name_place-at.ensures in
    sym (e ∙ rw (
      sym c.good_text.ensures ∙ c.if-not-good_text.false,
      ← c.get_u32.ensures,
      sym c.is_directory_in.ensures ∙ c.if-not-is_directory_in.true,
    ))

pub returns : goal.returns
returns c = let a = c.args in
    let e = used_is a.store.now a.p a.n.0 a.len c.name_place-at.result
    c.requires.p_value c.requires.len_value c.name_place-at.ensures in
    sym (e ∙ rw (
      sym c.good_text.ensures ∙ c.if-not-good_text.false,
      ← c.get_u32.ensures,
      sym c.is_directory_in.ensures ∙ c.if-not-is_directory_in.false,
      ← c.get_u32-2.ensures,
      ← c.is_live_in.ensures,
    ))
