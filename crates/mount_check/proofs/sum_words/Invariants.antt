use Rattle.std.proofs.Common.{◌≡◌, ◌+◌}
use Rattle.mount_check.specs.Digest.{lane}
use Rattle.mount_check.proofs.sum_words.Given as goal

abbrev pub invariant-loop-i : goal.invariant-loop-i
invariant-loop-i l = (l.a ≡ lane l.table l.at l.i) × (l.b ≡ lane l.table (l.at + 8) l.i) × (l.c ≡ lane l.table (l.at + 16) l.i) × (l.d ≡ lane l.table (l.at + 24) l.i)
