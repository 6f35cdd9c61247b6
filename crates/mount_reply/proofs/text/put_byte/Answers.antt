use mathlib.Core.Path.{refl}
use native.Mathlib.Omega.{arith}
use Rattle.laws.proofs.Bytes.{overlay_set}
use Rattle.xdr.proofs.Wrote.{wrote_over}
use Rattle.mount_reply.proofs.text.put_byte.Goals as goal

pub returns : goal.returns
returns c = wrote_over (overlay_set _ _ _ (omega arith)) refl (omega arith)
