-- Rows with one host and one path: that each has the pair of the other, and one digest. Assumes nothing.
use Rattle.std.proofs.Common.{◌≡◌, ℕ, zero, suc, ◌+◌, ◌-◌, ◌*◌, ◌%◌, ◌^◌, ◌<◌, ◌≤◌, true, List, ◌++◌, length, sym, refl, ap, ◌∙◌, ap₂, arith}
use Rattle.kinds.specs.Mount.{rows, most_path_bytes, path_offset, table_length}
use Rattle.spec.specs.Bytes.{part, zeros}
use Rattle.laws.proofs.Bytes.{part_part}
use Rattle.wire.specs.LowFirst.{low_first}
use Rattle.wire.specs.Hash.{word_at, joined}
use Rattle.mount_spec.specs.Table.{Table, row_start, path_length, row_at, is_used_row, good_row}
use Rattle.mount_laws.proofs.Good.{row_short, row_exact, row_padded}
use Rattle.mount_laws.proofs.Pairs.{pair_has, has_pair_lem}
use Rattle.mount_check.specs.Digest.{lane, summed, groups_of, digest}
use Rattle.mount_check.specs.Rows.{is_same_pair}

-- ---- a used row that passes: its path, and its path bytes, which are the path and zeros
pub record UsedRow (t : Table) (r : ℕ) : Type 0 where
  pub used : is_used_row t r ≡ true
  pub short : path_length t r ≤ most_path_bytes
  pub exact : length (row_at t r).path ≡ path_length t r
  pub whole : part t (row_start r + path_offset) most_path_bytes ≡ (row_at t r).path ++ zeros (most_path_bytes - path_length t r)

pub used_row : (t : Table) (r : ℕ) → length t ≡ table_length → r < rows → is_used_row t r ≡ true → good_row t r ≡ true → UsedRow t r
used_row t r long below u g =
    record { used = u; short = row_short t r g; exact = row_exact t r long below g; whole = row_padded t r long below g u }

module _ (t : Table) where
  -- a row has its own pair, and two used rows that have one have it both ways
  pub same_self : (r : ℕ) → UsedRow t r → is_same_pair t r r ≡ true
  same_self r w = has_pair_lem t _ _ r (record { used = w.used; host = refl; long = sym w.exact; path = refl })

  pub same_back : (r q : ℕ) → UsedRow t r → is_same_pair t r q ≡ true → is_same_pair t q r ≡ true
  same_back r q w e =
      let a = pair_has t _ _ q e in
      has_pair_lem t _ _ r (record { used = w.used; host = sym a.host; long = sym (ap length a.path ∙ w.exact); path = sym a.path })

-- ---- equal bytes have equal sums of words
module _ (b : List ℕ) (at from n : ℕ) (e : part b at n ≡ part b from n) where
  word_same : (p q i : ℕ) → p ≡ at + i → q ≡ from + i → i + 8 ≤ n → word_at b p ≡ word_at b q
  word_same p q i f g h = ap low_first (rw (f, g) (sym (part_part b at n i 8 h) ∙ ap (λ (l : List ℕ). part l i 8) e ∙ part_part b from n i 8 h))

  lane_same : (p q i k : ℕ) → p ≡ at + i → q ≡ from + i → i ≤ 24 → 32 * k ≤ n → lane b p k ≡ lane b q k
  unfolding lane
  lane_same p q i zero f g l h = refl
  lane_same p q i (suc k) f g l h =
      ap₂ (λ (x y : ℕ). (x + y) % 2 ^ 64) (lane_same p q i k f g l (omega arith))
      (word_same (p + 32 * k) (q + 32 * k) (i + 32 * k) (omega arith) (omega arith) (omega arith))

  sums_same : (k : ℕ) → 32 * k ≤ n → summed b at k ≡ summed b from k
  unfolding summed
  sums_same k h =
      ap₂ joined
      (ap₂ joined
      (ap₂ joined (lane_same at from 0 k (omega arith) (omega arith) (omega arith) h) (lane_same (at + 8) (from + 8) 8 k refl refl (omega arith) h))
      (lane_same (at + 16) (from + 16) 16 k refl refl (omega arith) h))
      (lane_same (at + 24) (from + 24) 24 k refl refl (omega arith) h)

pub same_digest : (t : Table) (r q : ℕ) → UsedRow t r → UsedRow t q → is_same_pair t r q ≡ true → digest t q ≡ digest t r
unfolding digest
same_digest t r q w v e =
    let a = pair_has t _ _ q e in
    let n : path_length t q ≡ path_length t r = a.long ∙ w.exact in
    let bytes = v.whole ∙ ap₂ (λ (l : List ℕ) (k : ℕ). l ++ zeros (most_path_bytes - k)) a.path n ∙ sym w.whole in
    rw n (sums_same t (row_start q + path_offset) (row_start r + path_offset) most_path_bytes bytes (groups_of (path_length t r)) (omega (arith, w.short)))
