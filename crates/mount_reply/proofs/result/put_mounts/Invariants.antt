use Prim.Native.Nat.{◌+◌, ◌*◌, ◌≤◌}
use mathlib.Core.Path.{◌≡◌}
use lib.ListN.{length}
use Rattle.mount_spec.specs.Replies.{mounts_bytes}
use Rattle.xdr.specs.Wrote.{Wrote}
use Rattle.mount_reply.specs.Fits.{most_mount_bytes}
use Rattle.mount_reply.proofs.result.put_mounts.Given as goal

abbrev pub invariant-loop-i : goal.invariant-loop-i
invariant-loop-i l = Wrote (length (mounts_bytes l.table l.i)) l.initial.reply l.reply l.at l.next (mounts_bytes l.table l.i) × (l.next ≤ l.at + most_mount_bytes * l.i)
    × (length l.reply ≡ length l.initial.reply)
