use native.Mathlib.Omega.{arith}
use Rattle.xdr.proofs.Wrote.{and_words}
use Rattle.reply_bodies.proofs.Sizes.{object_small}
use Rattle.reply_bodies.proofs.put_linked.Goals as goal

pub put_wcc_option-requires-clause-at_in_bounds : goal.put_wcc_option-requires-clause-at_in_bounds
put_wcc_option-requires-clause-at_in_bounds c = omega (arith, object_small c.args.store.now c.args.o)

pub returns : goal.returns
returns c = and_words _ _ (and_words _ _ c.put_word-next.ensures
    c.put_post_op_option-behind.ensures) c.put_wcc_option.ensures
