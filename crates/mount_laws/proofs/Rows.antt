-- What a row of a mount table is where the table has the bytes of a value. Assumes nothing.
use mathlib.Core.Path.{◌≡◌, refl, sym, ap, ◌∙◌}
use mathlib.Core.Bool.{true}
use mathlib.Core.List.{List, [], ◌∷◌, ◌++◌}
use Prim.Native.Nat.{ℕ, ◌+◌, ◌-◌, ◌^◌, ◌≤◌, ◌<◌}
use native.Mathlib.Omega.{arith}
use native.Mathlib.Nat.{add-zero, add_assoc}
use lib.Dec.{lit≤, lit<}
use lib.ListN.{length, length-append, length-replicate}
use borrow.Author.Tests.{le-leb}
use Rattle.kinds.specs.Mount.{most_path_bytes, path_offset, row_length}
use Rattle.spec.specs.Bytes.{part, zeros, be_of, be_at, bytes_of}
use Rattle.spec.specs.Check.{is_zero}
use Rattle.mount_spec.specs.Path.{starts_with_slash}
use Rattle.mount_spec.specs.Table.{Table, Row, row_start, path_length, row_at, row_bytes, free_row, is_used_row, good_used_row, good_row}
use Rattle.laws.proofs.Bytes.{bytes_length, part_part, part_left, part_right, part_whole, be_bytes}
use Rattle.laws.proofs.Count.{true_false}
use Rattle.laws.proofs.Tests.{true_nonzero}
use Rattle.laws.proofs.Zeros.{is_zero_zeros}

-- a path that starts with a slash has a byte
pub slash_long : (path : List ℕ) → starts_with_slash path ≡ true → 0 < length path
unfolding starts_with_slash
slash_long [] e = true_false (sym e)
slash_long (x ∷ xs) e = omega arith

-- a value whose numbers and path fit their places
pub record FitsRow (v : Row) : Type 0 where
  pub host : v.host < 2 ^ 32
  pub path : length v.path ≤ most_path_bytes

-- ---- row r of a table that has the bytes of a value there
pub row_length_lem : (v : Row) → length v.path ≤ most_path_bytes → length (row_bytes v) ≡ row_length
unfolding row_bytes
row_length_lem v h = simp (length-append, bytes_length, length-replicate) (omega arith)

-- the path of a value's bytes, and the zeros behind it
path_again : (v : Row) → part (row_bytes v) path_offset (length v.path) ≡ v.path
unfolding row_bytes
path_again v =
    let n = length v.path in
    let front = bytes_of 4 v.host ++ bytes_of 4 n in
    part_left (front ++ v.path) (zeros (most_path_bytes - n)) path_offset n (simp (length-append, bytes_length) (omega arith))
    ∙ part_right front v.path path_offset 0 n (simp (length-append, bytes_length) refl) ∙ part_whole v.path n refl

zeros_again : (v : Row) → part (row_bytes v) (path_offset + length v.path) (most_path_bytes - length v.path) ≡ zeros (most_path_bytes - length v.path)
unfolding row_bytes
zeros_again v =
    let n = length v.path in
    let k = most_path_bytes - n in
    let front = bytes_of 4 v.host ++ bytes_of 4 n ++ v.path in
    ap (λ (at : ℕ). part (row_bytes v) at k) (sym (add-zero (path_offset + n)))
    ∙ part_right front (zeros k) (path_offset + n) 0 k (simp (length-append, bytes_length) (omega arith)) ∙ part_whole (zeros k) k (length-replicate k 0)

module _ (u : Table) (r : ℕ) (v : Row) (f : FitsRow v) (e : part u (row_start r) row_length ≡ row_bytes v) where
  within : (i k : ℕ) → i + k ≤ row_length → part u (row_start r + i) k ≡ part (row_bytes v) i k
  within i k l = sym (part_part u (row_start r) row_length i k l) ∙ ap (λ (x : List ℕ). part x i k) e

  pub has_length : path_length u r ≡ length v.path
  unfolding path_length be_at row_bytes bytes_of part
  has_length = ap be_of (within 4 4 (lit≤ tt)) ∙ be_bytes 4 (length v.path) (omega (arith, f.path))

  has_host : be_at u (row_start r) 4 ≡ v.host
  unfolding be_at row_bytes bytes_of part
  has_host = ap be_of (rw add-zero at (within 0 4 (lit≤ tt))) ∙ be_bytes 4 v.host f.host

  has_path : part u (row_start r + path_offset) (path_length u r) ≡ v.path
  has_path = ap (part u (row_start r + path_offset)) has_length ∙ within path_offset (length v.path) (omega (arith, f.path)) ∙ path_again v

  pub has_row : row_at u r ≡ v
  unfolding row_at
  has_row = λ i. record { host = has_host i; path = has_path i }

  -- a path that starts with a slash
  pub has_good : starts_with_slash v.path ≡ true → good_row u r ≡ true
  unfolding good_row is_used_row good_used_row
  has_good h =
      rw (has_row, has_length, true_nonzero (length v.path) (slash_long v.path h), le-leb (length v.path) most_path_bytes f.path, h)
      (ap is_zero (behind ∙ zeros_again v) ∙ is_zero_zeros (most_path_bytes - length v.path))
    where
      behind : part u (row_start r + path_offset + length v.path) (most_path_bytes - length v.path)
          ≡ part (row_bytes v) (path_offset + length v.path) (most_path_bytes - length v.path)
      behind =
          ap (λ (k : ℕ). part u k (most_path_bytes - length v.path)) (add_assoc (row_start r) path_offset (length v.path))
          ∙ within (path_offset + length v.path) (most_path_bytes - length v.path) (omega (arith, f.path))

-- ---- a row that is free
free_zeros : row_bytes free_row ≡ zeros row_length
unfolding row_bytes bytes_of
free_zeros = refl

pub free_good : (u : Table) (r : ℕ) → part u (row_start r) row_length ≡ row_bytes free_row → good_row u r ≡ true
unfolding good_row is_used_row
free_good u r e =
    rw (has_length u r free_row (record { host = lit< tt; path = lit≤ tt }) e) (ap is_zero (e ∙ free_zeros) ∙ is_zero_zeros row_length)
