-- A row that is written into a mount table, and the other rows, which stay as they were. Assumes nothing.
use mathlib.Core.Path.{◌≡◌, sym, ap, ◌∙◌}
use mathlib.Core.Logic.{◌≢◌, ◌⊎◌, ⊎_elim}
use mathlib.Core.Bool.{◌&&◌, not, cond}
use mathlib.Core.List.{List}
use Prim.Native.Nat.{ℕ, ◌+◌, ◌-◌, ◌≤◌, ◌<◌}
use native.Mathlib.Omega.{arith}
use native.Mathlib.Nat.{add-zero, add_assoc}
use lib.Dec.{eqb, leb, lit≤}
use lib.ListN.{length}
use Rattle.kinds.specs.Mount.{rows, most_path_bytes, row_length, table_length}
use Rattle.spec.specs.Bytes.{part, be_of, be_at}
use Rattle.spec.specs.Check.{is_zero}
use Rattle.laws.proofs.Apart.{part_apart}
use Rattle.laws.proofs.Bytes.{lt_or_le, overlay_length, part_part, part_same}
use Rattle.mount_spec.specs.Path.{starts_with_slash}
use Rattle.mount_spec.specs.Table.{Table, Row, row_start, path_length, row_at, row_bytes, put_row, is_used_row, good_used_row, good_row}
use Rattle.mount_laws.proofs.Rows.{FitsRow, row_length_lem}

-- ---- row r of two tables with the same bytes there
pub record SameRow (t u : Table) (r : ℕ) : Type 0 where
  pub long : path_length u r ≡ path_length t r
  pub all : row_at u r ≡ row_at t r
  pub good : good_row u r ≡ good_row t r

pub same_row : (t u : Table) (r : ℕ) → path_length t r ≤ most_path_bytes → part u (row_start r) row_length ≡ part t (row_start r) row_length → SameRow t u r
unfolding path_length row_at good_row is_used_row good_used_row be_at
same_row t u r h e =
    let at = row_start r in
    let n = path_length t r in
    let long : path_length u r ≡ n = ap be_of (within 4 4 (lit≤ tt)) in
    let host : be_at u at 4 ≡ be_at t at 4 = ap be_of (rw add-zero at (within 0 4 (lit≤ tt))) in
    let path : part u (at + 8) (path_length u r) ≡ part t (at + 8) n = ap (part u (at + 8)) long ∙ within 8 n (omega arith) in
    let behind : part u (at + 8 + n) (most_path_bytes - n) ≡ part t (at + 8 + n) (most_path_bytes - n) =
    ap (λ (k : ℕ). part u k (most_path_bytes - n)) (add_assoc at 8 n) ∙ within (8 + n) (most_path_bytes - n) (omega arith)
    ∙ ap (λ (k : ℕ). part t k (most_path_bytes - n)) (sym (add_assoc at 8 n)) in
    record {
      long = long;
      all = λ i. record { host = host i; path = path i };
      good = λ i. cond (not (eqb (long i) 0)) (leb (long i) most_path_bytes && starts_with_slash (path i) && is_zero (zeros_behind long behind i)) (is_zero (e i));
    }
  where
    within : (i k : ℕ) → i + k ≤ row_length → part u (row_start r + i) k ≡ part t (row_start r + i) k
    within i k l =
        sym (part_part u (row_start r) row_length i k l) ∙ ap (λ (x : List ℕ). part x i k) e ∙ part_part t (row_start r) row_length i k l

    zeros_behind : {m n : ℕ} → m ≡ n
        → part u (row_start r + 8 + n) (most_path_bytes - n) ≡ part t (row_start r + 8 + n) (most_path_bytes - n)
        → part u (row_start r + 8 + m) (most_path_bytes - m) ≡ part t (row_start r + 8 + n) (most_path_bytes - n)
    zeros_behind q b = ap (λ (k : ℕ). part u (row_start r + 8 + k) (most_path_bytes - k)) q ∙ b

-- ---- a row that is written
module _ (t : Table) (r : ℕ) (v : Row) (long : length t ≡ table_length) (l : r < rows) (f : FitsRow v) where
  fits : row_start r + length (row_bytes v) ≤ length t
  fits = rw (row_length_lem v f.path, long) (omega arith)

  pub put_length : length (put_row t r v) ≡ table_length
  unfolding put_row
  put_length = overlay_length t (row_start r) (row_bytes v) fits ∙ long

  pub put_here : part (put_row t r v) (row_start r) row_length ≡ row_bytes v
  unfolding put_row
  put_here = part_same t (row_start r) (row_bytes v) fits row_length (row_length_lem v f.path)

  pub put_other : (q : ℕ) → q ≢ r → path_length t q ≤ most_path_bytes → SameRow t (put_row t r v) q
  unfolding put_row
  put_other q d h =
      let e = row_length_lem v f.path in
      same_row t (put_row t r v) q h (part_apart t (row_start r) (row_bytes v) fits (row_start q) row_length
      (⊎_elim (λ (b : q < r). ◌⊎◌.inl (omega arith)) (λ (b : r ≤ q). ◌⊎◌.inr (omega (arith, apart b d))) (lt_or_le q r)))
    where
      apart : r ≤ q → q ≢ r → r < q
      apart b n = ⊎_elim (λ (c : r < q). c) (λ (c : q ≤ r). absurd (n (omega arith))) (lt_or_le r q)
