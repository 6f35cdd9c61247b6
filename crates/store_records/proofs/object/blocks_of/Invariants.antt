use mathlib.Core.Path.{◌≡◌}
use lib.ListN.{length, take}
use Rattle.kinds.specs.BlockNumbers.{numbers_of}
use Rattle.kinds.specs.Numbers.{file_blocks}
use Rattle.spec.specs.Image.{object_at}
use Rattle.store_records.proofs.object.blocks_of.Given as goal

abbrev pub invariant-loop-k : goal.invariant-loop-k
invariant-loop-k l = (length l.blocks ≡ file_blocks) × (take l.k (numbers_of l.blocks) ≡ take l.k (object_at l.store l.o.0).blocks)
