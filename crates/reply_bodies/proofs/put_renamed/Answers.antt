use native.Mathlib.Omega.{arith}
use Rattle.xdr.proofs.Wrote.{and_words}
use Rattle.reply_bodies.proofs.Sizes.{change_small}
use Rattle.reply_bodies.proofs.put_renamed.Goals as goal

pub put_wcc_option-requires-clause-at_in_bounds : goal.put_wcc_option-requires-clause-at_in_bounds
put_wcc_option-requires-clause-at_in_bounds c = omega (arith, change_small c.args.store.now c.args.c)

pub returns : goal.returns
returns c = and_words _ _ (and_words _ _ c.put_word-next.ensures
    c.put_wcc_option-behind.ensures) c.put_wcc_option.ensures
