-- Numbers for a hash.
use Rattle.std.specs.Prelude.{ℕ, ◌+◌, ◌*◌, ◌/◌, ◌%◌, ◌^◌, List}
use Rattle.spec.specs.Bytes.{part}
use Rattle.wire.specs.LowFirst.{low_first}

-- the number in the eight bytes from `at`, least significant first
abbrev pub word_at : List ℕ → ℕ → ℕ
word_at b at = low_first (part b at 8)

-- the 64 bits of x turned, the lowest 6 to the top, and w added
unfoldable pub joined : ℕ → ℕ → ℕ
joined x w = (x / 64 + x % 64 * 2 ^ 58 + w) % 2 ^ 64
