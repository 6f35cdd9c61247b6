use Prim.Native.Nat.{◌-◌}
use mathlib.Core.Path.{◌≡◌}
use lib.ListN.{length}
use Rattle.kinds.specs.BlockNumbers.{numbers_of}
use Rattle.kinds.specs.Numbers.{file_blocks}
use Rattle.spec.specs.Bytes.{part}
use Rattle.spec.specs.Edits.{clear_blocks}
use Rattle.edit_data.proofs.clear_blocks.Given as goal

abbrev pub invariant-loop-k : goal.invariant-loop-k
invariant-loop-k l = (length l.list ≡ file_blocks) × (l.store ≡ clear_blocks l.initial.store (part (numbers_of l.list) l.start (l.k - l.start)))
