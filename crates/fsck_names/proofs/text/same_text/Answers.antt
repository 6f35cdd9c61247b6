use Rattle.fsck_names.proofs.Padded.{same_quarters}
use Rattle.fsck_names.proofs.text.same_text.Goals as goal

pub returns : goal.returns
returns c = same_quarters c.args.s.now c.args.a c.args.b c.requires.most_name_bytes_in_bounds c.requires.most_name_bytes_in_bounds_2 _ _ _ _ c.same_word.ensures
    c.same_word-2.ensures c.same_word-3.ensures c.same_word-4.ensures
