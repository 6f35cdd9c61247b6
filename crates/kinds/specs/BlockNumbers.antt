-- Block numbers as code passes them along.
use Rattle.std.specs.Prelude.{ℕ, List, map}
use Rattle.kinds.specs.declared.numbers.BlockNumber.{BlockNumber}

-- the numbers of a list of blocks
abbrev pub numbers_of : List BlockNumber → List ℕ
numbers_of bs = map (λ b. b.0) bs
