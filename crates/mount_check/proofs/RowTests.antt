-- A row as the code finds it: whether it is used, its digest, and whether it passes by itself, test by test. Assumes nothing.
use Rattle.std.proofs.Common.{◌≡◌, ℕ, zero, suc, ◌+◌, ◌-◌, ◌<◌, ◌≤◌, true, false, ◌&&◌, eqb, leb, List, length, get_or, arith, eq-eqb, ne_eqb}
use Rattle.std.specs.Int.{div_ceil}
use Rattle.kinds.specs.Mount.{most_path_bytes, path_offset}
use Rattle.spec.specs.Bytes.{part}
use Rattle.spec.specs.Check.{is_zero}
use Rattle.laws.proofs.Bytes.{part_cons}
use Rattle.laws.proofs.Zeros.{zero_add}
use Rattle.mount_spec.specs.Path.{slash, starts_with_slash}
use Rattle.mount_spec.specs.Table.{Table, row_start, path_length, row_at, is_used_row, good_row, good_used_row}
use Rattle.mount_laws.proofs.Good.{row_short}
use Rattle.mount_check.specs.Digest.{summed, groups_of, digest}

-- the first byte of a part
starts : (b : List ℕ) (at n : ℕ) → 1 ≤ n → at < length b → starts_with_slash (part b at n) ≡ eqb (get_or b at 0) slash
unfolding starts_with_slash
starts b at zero h l = absurd (omega arith)
starts b at (suc n) h l = rw (part_cons b at n l)

-- how many groups hold n bytes
pub groups : (n k : ℕ) → k ≡ div_ceil n 32 → k ≡ groups_of n
groups n k e = omega arith

module _ (t : Table) (r n : ℕ) (m : n ≡ path_length t r) where
  pub free_by : n ≡ 0 → is_used_row t r ≡ false
  unfolding is_used_row
  free_by e = rw (← m, eq-eqb n 0 e)

  pub used_by : (n ≡ 0 → ⊥) → is_used_row t r ≡ true
  unfolding is_used_row
  used_by d = rw (← m, ne_eqb n 0 d)

  pub digest_by : (place own : ℕ) → place ≡ row_start r → own ≡ summed t (place + path_offset) (groups_of n) → own ≡ digest t r
  unfolding digest
  digest_by place own p e = rw (← m, ← p) e

  -- a row that passes has a short path
  pub short_by : good_row t r ≡ true → n ≤ most_path_bytes
  short_by g = rw m (row_short t r g)

  -- a free row is zero up to its path, and from there
  pub free_zero : (place : ℕ) → place ≡ row_start r → is_used_row t r ≡ false
      → good_row t r ≡ is_zero (part t place path_offset) && is_zero (part t (place + path_offset) most_path_bytes)
  unfolding good_row
  free_zero place p u = rw (u, ← p) (zero_add t place path_offset most_path_bytes)

  -- a used row passes by three tests
  pub used_tests : (place : ℕ) → place ≡ row_start r → place + path_offset < length t → 1 ≤ n
      → good_used_row t r ≡ leb n most_path_bytes && eqb (get_or t (place + path_offset) 0) slash && is_zero (part t (place + path_offset + n) (most_path_bytes - n))
  unfolding good_used_row row_at
  used_tests place p l some = rw (← m, ← p, starts t (place + path_offset) n some l)
