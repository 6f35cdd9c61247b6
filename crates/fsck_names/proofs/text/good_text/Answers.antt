use mathlib.Core.Path.{sym, ◌∙◌}
use Rattle.fsck_names.proofs.Padded.{text_no, text_yes}
use Rattle.fsck_names.proofs.text.good_text.Goals as goal

pub text_passes-requires-clause-most_name_bytes_in_bounds : goal.text_passes-requires-clause-most_name_bytes_in_bounds
text_passes-requires-clause-most_name_bytes_in_bounds c = c.requires.most_name_bytes_in_bounds

pub text_passes-requires-clause-n_le_most_name_bytes : goal.text_passes-requires-clause-n_le_most_name_bytes
text_passes-requires-clause-n_le_most_name_bytes c = c.requires.n_le_most_name_bytes

pub text_passes-requires-clause-inside : goal.text_passes-requires-clause-inside
text_passes-requires-clause-inside c = c.requires.inside

pub returns-then-not-text_passes : goal.returns-then-not-text_passes
returns-then-not-text_passes c = let a = c.args in
    sym (text_no a.s.now a.at a.n c.requires.most_name_bytes_in_bounds c.requires.le_n c.requires.n_le_most_name_bytes
    (sym c.text_passes.ensures ∙ c.if-not-text_passes.true))

pub returns : goal.returns
returns c = let a = c.args in
    sym (text_yes a.s.now a.at a.n c.requires.most_name_bytes_in_bounds c.requires.le_n c.requires.n_le_most_name_bytes c.is_dots.result c.is_dots.ensures
    (sym c.text_passes.ensures ∙ c.if-not-text_passes.false))
