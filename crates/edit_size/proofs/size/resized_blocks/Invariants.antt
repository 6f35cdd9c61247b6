use Prim.Native.Nat.{◌-◌, ◌≤◌}
use mathlib.Core.Path.{◌≡◌}
use lib.ListN.{length}
use Rattle.kinds.specs.BlockNumbers.{numbers_of}
use Rattle.kinds.specs.Numbers.{file_blocks}
use Rattle.edit_size.proofs.ResizedNumbers.{numbers_to}
use Rattle.edit_size.proofs.size.resized_blocks.Given as goal

abbrev pub invariant-loop-k : goal.invariant-loop-k
invariant-loop-k l = (length l.own ≡ file_blocks) × (length l.added ≡ file_blocks) × (length l.list ≡ file_blocks)
    × (numbers_of l.list ≡ numbers_to (numbers_of l.own) (numbers_of l.added) l.before l.after l.k)
