use mathlib.Core.Path.{sym, ◌∙◌}
use native.Mathlib.Omega.{arith}
use Rattle.xdr.proofs.Wrote.{wrote_none}
use Rattle.mount_reply.proofs.result.put_used.Goals as goal

pub returns-then-not-is_used-clause-wrote : goal.returns-then-not-is_used-clause-wrote
returns-then-not-is_used-clause-wrote c = rw (sym c.is_used.ensures ∙ c.if-not-is_used.true) (wrote_none _ _ (omega arith))
