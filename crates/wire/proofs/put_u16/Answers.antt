use Rattle.std.proofs.Common.{◌∙◌, arith}
use Rattle.laws.proofs.Bytes.{bytes_length}
use Rattle.wire.proofs.Numbers.{bytes_2}
use Rattle.wire.proofs.Overlaid.{written}
use Rattle.wire.proofs.put_u16.Goals as goal

pub returns : goal.returns
returns c = written c.args.s.now c.args.at _ _ _ (c.copy_from_slice.ensures.after ∙ c.to_be_bytes.ensures ∙ bytes_2 c.args.v) (bytes_length 2 c.args.v ∙ omega arith)
