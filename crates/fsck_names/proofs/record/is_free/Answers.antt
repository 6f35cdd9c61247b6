use mathlib.Core.Path.{sym, ◌∙◌}
use borrow.Author.Tests.{eq-eqb, ne_eqb}
use Rattle.fsck_names.proofs.Padded.{free_is}
use Rattle.fsck_names.proofs.record.is_free.Goals as goal

pub returns-then-get_u64-ne0 : goal.returns-then-get_u64-ne0
returns-then-get_u64-ne0 c = let a = c.args in
    sym (free_is a.store.now a.at c.requires.length_offset_value ∙ rw (← c.get_u64.ensures, ne_eqb _ 0 c.if-get_u64-ne0.true))

pub returns : goal.returns
returns c = let a = c.args in
    sym (free_is a.store.now a.at c.requires.length_offset_value ∙ rw (← c.get_u64.ensures, eq-eqb _ 0 c.if-get_u64-ne0.false, ← c.is_zero.ensures))
