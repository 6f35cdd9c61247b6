use native.Mathlib.Omega.{arith}
use Rattle.mount_reply.proofs.Decimals.{dotted_bytes_length}
use Rattle.mount_reply.proofs.text.dotted_length.Goals as goal

pub returns : goal.returns
returns c = (omega (arith, dotted_bytes_length c.args.host c.to_be_bytes.result (omega arith) c.to_be_bytes.ensures), omega arith)
