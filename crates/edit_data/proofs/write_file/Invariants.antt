use Prim.Native.Nat.{◌+◌, ◌-◌, ◌≤◌}
use mathlib.Core.Path.{◌≡◌}
use Rattle.kinds.specs.Numbers.{most_file_bytes}
use Rattle.spec.specs.Bytes.{part}
use Rattle.spec.specs.Edits.{write_file}
use Rattle.edit_data.proofs.WrittenFile.{Writing}
use Rattle.edit_data.proofs.write_file.Given as goal

abbrev pub invariant-loop-done : goal.invariant-loop-done
invariant-loop-done l = Writing l.initial.store l.o.0 l.offset l.call l.start l.n × (l.offset + l.n ≤ most_file_bytes) × (l.done ≤ l.n) × (l.store ≡ write_file l.initial.store l.o.0 l.offset (part l.call l.start l.done))

abbrev pub decreases-loop-done : goal.decreases-loop-done
decreases-loop-done l = l.n - l.done
