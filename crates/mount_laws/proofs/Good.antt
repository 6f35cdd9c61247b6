-- Rows that pass by themselves: how long their paths are, and what stands behind them. Assumes nothing.
use mathlib.Core.Path.{◌≡◌, ap, ◌∙◌}
use mathlib.Core.Bool.{true, ◌&&◌}
use mathlib.Core.List.{List, ◌++◌}
use Prim.Native.Nat.{ℕ, ◌+◌, ◌-◌, ◌≤◌, ◌<◌}
use native.Mathlib.Omega.{arith}
use lib.Dec.{leb}
use lib.ListN.{length}
use borrow.Author.Tests.{leb-true}
use Rattle.kinds.specs.Mount.{rows, most_path_bytes, path_offset, table_length}
use Rattle.spec.specs.Bytes.{part, zeros}
use Rattle.spec.specs.Check.{is_zero}
use Rattle.laws.proofs.Bytes.{part_add, part_length}
use Rattle.laws.proofs.Count.{by_bool, and_both}
use Rattle.laws.proofs.Tests.{nonzero_false}
use Rattle.laws.proofs.Zeros.{zeros_is_zero}
use Rattle.mount_spec.specs.Path.{starts_with_slash}
use Rattle.mount_spec.specs.Table.{Table, row_start, path_length, row_at, is_used_row, good_used_row, good_row}

-- ---- a used row
module _ (t : Table) (r : ℕ) (u : is_used_row t r ≡ true) (g : good_row t r ≡ true) where
  -- its path is short, and zeros stand behind it
  short_padded : (path_length t r ≤ most_path_bytes) × (is_zero (part t (row_start r + path_offset + path_length t r) (most_path_bytes - path_length t r)) ≡ true)
  unfolding good_row good_used_row
  short_padded =
      let a = leb (path_length t r) most_path_bytes in
      let b = starts_with_slash (row_at t r).path in
      let c = is_zero (part t (row_start r + path_offset + path_length t r) (most_path_bytes - path_length t r)) in
      let (x, y) = and_both (a && b) c (rw u at g) in
      (leb-true (path_length t r) most_path_bytes (and_both a b x).0, y)

-- ---- any row
-- its path is at most 1,024 bytes long
pub row_short : (t : Table) (r : ℕ) → good_row t r ≡ true → path_length t r ≤ most_path_bytes
unfolding is_used_row
row_short t r g = by_bool (is_used_row t r) (λ u. (short_padded t r u g).0) (λ u. omega (arith, nonzero_false (path_length t r) u))

module _ (t : Table) (r : ℕ) (long : length t ≡ table_length) (below : r < rows) (g : good_row t r ≡ true) where
  -- it is as long as the row states
  pub row_exact : length (row_at t r).path ≡ path_length t r
  unfolding row_at
  row_exact = part_length t (row_start r + path_offset) (path_length t r) (omega (arith, row_short t r g))

  -- the path bytes of a used row are the path and zeros
  pub row_padded : is_used_row t r ≡ true
      → part t (row_start r + path_offset) most_path_bytes ≡ (row_at t r).path ++ zeros (most_path_bytes - path_length t r)
  unfolding row_at
  row_padded u =
      let n = path_length t r in
      let at = row_start r + path_offset in
      let (short, padded) = short_padded t r u g in
      let q : most_path_bytes ≡ n + (most_path_bytes - n) = omega arith in
      let e = zeros_is_zero _ (most_path_bytes - n) (part_length t (at + n) (most_path_bytes - n) (omega arith)) padded in
      ap (part t at) q ∙ part_add t at n (most_path_bytes - n) ∙ ap (λ (l : List ℕ). part t at n ++ l) e
