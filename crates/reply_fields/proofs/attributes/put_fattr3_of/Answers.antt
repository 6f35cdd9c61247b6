use Rattle.reply_fields.proofs.attributes.put_fattr3_of.Goals as goal

pub returns : goal.returns
returns c = rw c.attributes.ensures at c.put_fattr3.ensures
