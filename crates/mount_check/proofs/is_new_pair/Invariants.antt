use Rattle.std.proofs.Common.{◌≡◌, ℕ, ◌<◌, false}
use Rattle.mount_check.specs.Rows.{is_same_pair}
use Rattle.mount_check.proofs.is_new_pair.Given as goal

abbrev pub invariant-loop-i : goal.invariant-loop-i
invariant-loop-i l = (q : ℕ) → q < l.i → is_same_pair l.table l.r.0 q ≡ false
