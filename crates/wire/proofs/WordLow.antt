-- The number in eight bytes, least significant first, as the code makes it. Assumes nothing.
use Rattle.std.proofs.Common.{◌≡◌, ℕ, ◌+◌, ◌*◌, ◌≤◌, List, length, get_or, arith}
use Rattle.spec.specs.Bytes.{digits, be_of}
use Rattle.wire.proofs.Numbers.{part_eight}
use Rattle.wire.specs.LowFirst.{low_first}
use Rattle.wire.specs.Hash.{word_at}

pub word_low : (b : List ℕ) (at : ℕ) → at + 8 ≤ length b
    → get_or b at 0 + get_or b (at + 1) 0 * 256 + get_or b (at + 2) 0 * 65536 + get_or b (at + 3) 0 * 16777216 + get_or b (at + 4) 0 * 4294967296
    + get_or b (at + 5) 0 * 1099511627776 + get_or b (at + 6) 0 * 281474976710656 + get_or b (at + 7) 0 * 72057594037927936
    ≡ word_at b at
unfolding low_first be_of digits
word_low b at h = rw (part_eight b at h) (omega arith)
