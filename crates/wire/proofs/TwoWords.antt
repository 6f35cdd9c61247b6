-- The bytes of a number of eight bytes are those of two words. Assumes nothing.
use Rattle.std.proofs.Common.{◌≡◌, ℕ, ◌/◌, ◌%◌, ◌++◌, div-one, arith}
use Rattle.spec.specs.Bytes.{bytes_of}

pub two_words : (v : ℕ) → bytes_of 4 (v / 4294967296) ++ bytes_of 4 (v % 4294967296) ≡ bytes_of 8 v
unfolding bytes_of
two_words v =
    let byte7 : v / 4294967296 / 16777216 % 256 ≡ v / 72057594037927936 % 256 = omega arith in
    let byte6 : v / 4294967296 / 65536 % 256 ≡ v / 281474976710656 % 256 = omega arith in
    let byte5 : v / 4294967296 / 256 % 256 ≡ v / 1099511627776 % 256 = omega arith in
    let byte3 : v % 4294967296 / 16777216 % 256 ≡ v / 16777216 % 256 = omega arith in
    let byte2 : v % 4294967296 / 65536 % 256 ≡ v / 65536 % 256 = omega arith in
    let byte1 : v % 4294967296 / 256 % 256 ≡ v / 256 % 256 = omega arith in
    let byte0 : v % 4294967296 % 256 ≡ v % 256 = omega arith in
    simp (div-one, byte7, byte6, byte5, byte3, byte2, byte1, byte0)
