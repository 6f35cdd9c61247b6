use native.Mathlib.Omega.{arith}
use Rattle.xdr.proofs.Wrote.{in_words}
use Rattle.reply_fields.proofs.attributes.put_post_op_option.Goals as goal

pub put_post_op_attr-requires-clause-at_in_bounds : goal.put_post_op_attr-requires-clause-at_in_bounds
put_post_op_attr-requires-clause-at_in_bounds c = omega arith

pub put_post_op_attr-requires-clause-showable : goal.put_post_op_attr-requires-clause-showable
put_post_op_attr-requires-clause-showable c = rw c.in-Some.is at c.requires.showable_object

pub returns-in-None : goal.returns-in-None
returns-in-None c = rw c.in-None.is (in_words _ c.put_word.ensures)

pub returns-in-Some : goal.returns-in-Some
returns-in-Some c = rw c.in-Some.is (in_words _ c.put_post_op_attr.ensures)
