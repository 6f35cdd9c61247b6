use mathlib.Core.Path.{◌≡◌}
use Rattle.kinds.specs.BlockNumbers.{numbers_of}
use Rattle.spec.specs.Bytes.{overlay}
use Rattle.spec.specs.Image.{halves_bytes}
use Rattle.store_records.proofs.object.save_blocks.Given as goal

abbrev pub invariant-loop-k : goal.invariant-loop-k
invariant-loop-k l = l.store ≡ overlay l.initial.store l.at (halves_bytes l.k (numbers_of l.r-items))
