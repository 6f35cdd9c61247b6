-- Numbers with their least significant byte first, as the machine loads and stores them.
use Rattle.std.specs.Prelude.{ℕ, List, reverse}
use Rattle.spec.specs.Bytes.{be_of}

-- the number that the bytes xs spell, least significant first
unfoldable pub low_first : List ℕ → ℕ
low_first xs = be_of (reverse xs)
