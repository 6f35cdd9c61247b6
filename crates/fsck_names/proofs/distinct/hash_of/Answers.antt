use native.Mathlib.Omega.{arith}
use Rattle.fsck_names.proofs.Same.{hash_by}
use Rattle.fsck_names.proofs.distinct.hash_of.Goals as goal

pub returns : goal.returns
returns c = (
  hash_by c.args.store.now c.args.p c.args.n.0
      c.name_place-at.result
      c.directory_of-directory.result.0
      c.word_at.result c.word_at-2.result
      c.word_at-3.result c.word_at-4.result
      c.join-first.result c.join-second.result
      c.join-third.result c.join-x.result
      c.requires.p_value c.name_place-at.ensures
      c.directory_of-directory.ensures
      c.word_at.ensures
      c.word_at-2.ensures c.word_at-3.ensures
      c.word_at-4.ensures c.join-first.ensures
      c.join-second.ensures c.join-third.ensures c.join-x.ensures,
  omega arith,
)
