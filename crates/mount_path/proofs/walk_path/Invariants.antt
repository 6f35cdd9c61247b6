use mathlib.Core.Path.{◌≡◌}
use Prim.Native.Nat.{◌+◌, ◌-◌, ◌≤◌, ◌<◌}
use Rattle.spec.specs.Bytes.{part}
use Rattle.spec.specs.Image.{objects}
use Rattle.mount_spec.specs.Path.{root, components, walk}
use Rattle.mount_path.proofs.walk_path.Given as goal

abbrev pub invariant-loop-from : goal.invariant-loop-from
invariant-loop-from l = (l.o.0 < objects l.store) × (l.from ≤ l.end + 1)
    × (walk l.store root (components (part l.call l.initial.from (l.end - l.initial.from))) ≡ walk l.store l.o.0 (components (part l.call l.from (l.end - l.from))))

abbrev pub decreases-loop-from : goal.decreases-loop-from
decreases-loop-from l = l.end - l.from
