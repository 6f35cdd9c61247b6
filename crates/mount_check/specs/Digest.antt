-- A number for the path of a row, by which most rows are told apart at once.
use Rattle.std.specs.Prelude.{ℕ, zero, suc, ◌+◌, ◌*◌, ◌/◌, ◌%◌, ◌^◌, List}
use Rattle.kinds.specs.Mount.{path_offset}
use Rattle.wire.specs.Hash.{word_at, joined}
use Rattle.mount_spec.specs.Table.{Table, row_start, path_length}

-- the words of eight bytes at `at`, at + 32, .., k of them, added up, wrapping
unfoldable pub lane : List ℕ → ℕ → ℕ → ℕ
lane b at zero = 0
lane b at (suc k) = (lane b at k + word_at b (at + 32 * k)) % 2 ^ 64

-- k groups of 32 bytes from `at`: the sums of the words at each of the four places of a group, joined
unfoldable pub summed : List ℕ → ℕ → ℕ → ℕ
summed b at k = joined (joined (joined (lane b at k) (lane b (at + 8) k)) (lane b (at + 16) k)) (lane b (at + 24) k)

-- the groups that hold a path of n bytes
abbrev pub groups_of : ℕ → ℕ
groups_of n = (n + 31) / 32

-- the digest of a row's path, which its padding makes whole groups: 32 groups are the 1,024 path bytes
unfoldable pub digest : Table → ℕ → ℕ
digest t r = summed t (row_start r + path_offset) (groups_of (path_length t r))
