use mathlib.Core.Bool.{not}
use mathlib.Core.Path.{◌≡◌}
use Prim.Native.Nat.{◌-◌}
use Rattle.kinds.specs.Numbers.{most_name_bytes}
use Rattle.spec.specs.Count.{every}
use Rattle.fsck_names.specs.Record.{is_text}
use Rattle.fsck_names.proofs.text.text_passes.Given as goal

abbrev pub invariant-loop-i : goal.invariant-loop-i
invariant-loop-i l = (l.from ≡ most_name_bytes - l.n) × (not l.other ≡ every l.i (is_text l.s l.at l.n))
