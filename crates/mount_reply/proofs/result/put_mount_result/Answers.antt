use native.Mathlib.Omega.{arith}
use Rattle.spec.specs.Rpc.{accepted}
use Rattle.mount_spec.specs.Replies.{mount_result_bytes}
use Rattle.xdr.proofs.Wrote.{wrote_none, and_then, sized}
use Rattle.mount_reply.proofs.result.put_mount_result.Goals as goal

pub returns-in-Nothing : goal.returns-in-Nothing
unfolding accepted mount_result_bytes
returns-in-Nothing c = rw c.in-Nothing.is (sized _ (and_then c.put_head-at.ensures (wrote_none _ c.put_head-at.result (omega arith))))

pub returns-in-Failed : goal.returns-in-Failed
unfolding accepted mount_result_bytes
returns-in-Failed c = rw c.in-Failed.is (sized _ (and_then c.put_head-at.ensures c.put_word.ensures))

pub returns-in-Mounted : goal.returns-in-Mounted
unfolding accepted mount_result_bytes
returns-in-Mounted c = rw c.in-Mounted.is (sized _ (and_then c.put_head-at.ensures c.put_mounted.ensures))

pub returns-in-Mounts : goal.returns-in-Mounts
unfolding accepted mount_result_bytes
returns-in-Mounts c = rw c.in-Mounts.is (sized _ (and_then c.put_head-at.ensures c.put_mounts.ensures))

pub returns-in-Exports : goal.returns-in-Exports
unfolding accepted mount_result_bytes
returns-in-Exports c = rw c.in-Exports.is (sized _ (and_then c.put_head-at.ensures c.put_exports.ensures))
