-- The number at a place, as the function that reads it spells it, and the bytes of a number, as the function that writes it has them. Assumes nothing.
use Rattle.std.proofs.Common.{◌≡◌, ℕ, suc, ◌+◌, ◌*◌, ◌≤◌, List, [], ◌∷◌, length, get_or, arith, div-one}
use native.Mathlib.Numerals.{towards_suc}
use Rattle.std.specs.Int.{w16, w32, w64, to_be_bytes}
use Rattle.spec.specs.Bytes.{part, digits, be_of, be_at, bytes_of}
use Rattle.laws.proofs.Bytes.{part_cons}

pub part_four : (b : List ℕ) (at : ℕ) → at + 4 ≤ length b
    → part b at 4 ≡ get_or b at 0 ∷ get_or b (at + 1) 0 ∷ get_or b (at + 2) 0 ∷ get_or b (at + 3) 0 ∷ []
unfolding part
part_four b at h =
    rw (
      part_cons b at 3 (omega arith),
      part_cons b (suc at) 2 (omega arith),
      part_cons b (suc (suc at)) 1 (omega arith),
      part_cons b (suc (suc (suc at))) 0 (omega arith),
    )
    (simp towards_suc)

pub part_eight : (b : List ℕ) (at : ℕ) → at + 8 ≤ length b
    → part b at 8 ≡ get_or b at 0 ∷ get_or b (at + 1) 0 ∷ get_or b (at + 2) 0 ∷ get_or b (at + 3) 0
    ∷ get_or b (at + 4) 0 ∷ get_or b (at + 5) 0 ∷ get_or b (at + 6) 0 ∷ get_or b (at + 7) 0 ∷ []
unfolding part
part_eight b at h =
    rw (
      part_cons b at 7 (omega arith),
      part_cons b (suc at) 6 (omega arith),
      part_cons b (suc (suc at)) 5 (omega arith),
      part_cons b (suc (suc (suc at))) 4 (omega arith),
      part_cons b (suc (suc (suc (suc at)))) 3 (omega arith),
      part_cons b (suc (suc (suc (suc (suc at))))) 2 (omega arith),
      part_cons b (suc (suc (suc (suc (suc (suc at)))))) 1 (omega arith),
      part_cons b (suc (suc (suc (suc (suc (suc (suc at))))))) 0 (omega arith),
    )
    (simp towards_suc)

pub read_4 : (b : List ℕ) (at : ℕ) → at + 4 ≤ length b
    → be_at b at 4 ≡ get_or b at 0 * 16777216 + get_or b (at + 1) 0 * 65536 + get_or b (at + 2) 0 * 256 + get_or b (at + 3) 0
unfolding be_at be_of digits
read_4 b at h = rw (part_four b at h) (omega arith)

pub read_8 : (b : List ℕ) (at : ℕ) → at + 8 ≤ length b
    → be_at b at 8 ≡ get_or b at 0 * 72057594037927936 + get_or b (at + 1) 0 * 281474976710656 + get_or b (at + 2) 0 * 1099511627776
    + get_or b (at + 3) 0 * 4294967296 + get_or b (at + 4) 0 * 16777216 + get_or b (at + 5) 0 * 65536 + get_or b (at + 6) 0 * 256 + get_or b (at + 7) 0
unfolding be_at be_of digits
read_8 b at h = rw (part_eight b at h) (omega arith)

pub bytes_2 : (v : ℕ) → to_be_bytes w16 v ≡ bytes_of 2 v
unfolding bytes_of
bytes_2 v = simp div-one

pub bytes_4 : (v : ℕ) → to_be_bytes w32 v ≡ bytes_of 4 v
unfolding bytes_of
bytes_4 v = simp div-one

pub bytes_8 : (v : ℕ) → to_be_bytes w64 v ≡ bytes_of 8 v
unfolding bytes_of
bytes_8 v = simp div-one
