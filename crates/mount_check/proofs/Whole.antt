-- The pass over the rows: what ends it, one row further, and what it shows at the end. Assumes nothing.
use Rattle.std.proofs.Common.{◌≡◌, ℕ, ◌+◌, ◌<◌, ◌≤◌, true, false, ◌&&◌, eqb, ◌≢◌, List, length, get_or, set, sym, refl, ◌∙◌, ⊎_elim, not-suc-le-zero, arith, length-set, get_or-set_other, get_or-set_same, eq-eqb, ne_eqb}
use mathlib.Core.Logic.{by_cases}
use mathlib.Core.Bool.{and-false}
use native.Mathlib.Decide.{ℕ_discrete}
use Rattle.kinds.specs.Mount.{rows, table_length}
use Rattle.spec.specs.Count.{count, every}
use Rattle.laws.proofs.Bytes.{lt_or_le}
use Rattle.laws.proofs.Count.{by_bool, true_false, count_one, every_at, every_more, every_fails}
use Rattle.laws.proofs.Tests.{implies}
use Rattle.laws.proofs.Unique.{one_passes}
use Rattle.mount_spec.specs.Table.{Table, row_at, is_used_row, has_pair, good_row, is_only_pair, passes_table}
use Rattle.mount_laws.proofs.Checked.{passes_table_lem}
use Rattle.mount_laws.proofs.Pairs.{pair_has}
use Rattle.mount_check.specs.Digest.{digest}
use Rattle.mount_check.specs.Rows.{is_same_pair, IsNew, RowsPass, Tells}
use Rattle.mount_check.proofs.Same.{UsedRow, used_row, same_self, same_back, same_digest}

-- ---- what a part of the check tells
pub tells_true : {t : Table} {facts : Type 0} → facts → Tells true t facts
tells_true f = record { holds = λ e. f; fails = λ e. true_false e }

pub tells_false : {t : Table} {facts : Type 0} → passes_table t ≡ false → Tells false t facts
tells_false f = record { holds = λ e. true_false (sym e); fails = λ e. f }

-- ---- tables that do not pass
module _ (t : Table) where
  pub fails_length : (length t ≡ table_length → ⊥) → passes_table t ≡ false
  unfolding passes_table
  fails_length d = rw (ne_eqb (length t) table_length d)

  pub fails_row : (r : ℕ) → r < rows → good_row t r ≡ false → passes_table t ≡ false
  unfolding passes_table
  fails_row r l e = rw (every_fails (good_row t) r rows e l, and-false (eqb (length t) table_length))

  fails_pair : (r : ℕ) → r < rows → is_only_pair t r ≡ false → passes_table t ≡ false
  unfolding passes_table
  fails_pair r l e = rw (every_fails (is_only_pair t) r rows e l) (and-false (eqb (length t) table_length && every rows (good_row t)))

  -- a row before row r that has its pair
  pub fails_twice : (r q : ℕ) → r < rows → UsedRow t r → q < r → is_same_pair t r q ≡ true → passes_table t ≡ false
  unfolding is_only_pair
  fails_twice r q l w h e =
      let p = is_same_pair t r in
      fails_pair r l (rw w.used (ne_eqb (count rows p) 1 (λ k.
      let d = one_passes rows p q r (omega arith) (omega arith) l e (same_self t r w) in absurd (omega arith))))

-- ---- the rows so far, and one row more
pub one_more : (p : ℕ → Type 0) (n : ℕ) → ((r : ℕ) → r < n → p r) → p n → (r : ℕ) → r < n + 1 → p r
one_more p n f e r l = by_cases (ℕ_discrete r n) (λ (q : r ≡ n). rw q e) (λ (d : r ≢ n). f r (omega arith))

module _ (t : Table) where
  pub rows_none : (digests : List ℕ) → length digests ≡ rows → RowsPass t 0 digests
  unfolding every
  rows_none digests m = record { long = m; good = refl; new = λ r l. absurd (not-suc-le-zero l); digested = λ r l. absurd (not-suc-le-zero l) }

  pub rows_free : (n : ℕ) (digests : List ℕ) → RowsPass t n digests → good_row t n ≡ true → is_used_row t n ≡ false → RowsPass t (n + 1) digests
  rows_free n digests a g u =
      record {
        long = a.long;
        good = every_more (good_row t) n a.good g;
        new = one_more _ n a.new (λ v. true_false (sym v ∙ u));
        digested = one_more _ n a.digested (λ v. true_false (sym v ∙ u));
      }

  pub rows_used : (n own : ℕ) (digests : List ℕ) → n < rows → RowsPass t n digests → good_row t n ≡ true → IsNew t n → own ≡ digest t n
      → RowsPass t (n + 1) (set digests n own)
  rows_used n own digests l a g f e =
      record {
        long = length-set digests n own ∙ a.long;
        good = every_more (good_row t) n a.good g;
        new = one_more _ n a.new (λ v. f);
        digested = one_more _ n
            (λ r h v. get_or-set_other digests n r own 0 (λ q. absurd (omega arith)) ∙ a.digested r h v)
            (λ v. get_or-set_same digests n own 0 (omega (arith, a.long)) ∙ e);
      }

  module _ (n : ℕ) (digests : List ℕ) (a : RowsPass t n digests) (long : length t ≡ table_length) where
    used_before : n ≤ rows → (r : ℕ) → r < n → is_used_row t r ≡ true → UsedRow t r
    used_before l r h u = used_row t r long (omega arith) u (every_at (good_row t) n r a.good h)

    -- a row before row n with another digest, or free, has another pair
    pub other_digest : n < rows → UsedRow t n → (own q : ℕ) → own ≡ digest t n → q < n → (get_or digests q 0 ≡ own → ⊥) → is_same_pair t n q ≡ false
    other_digest l w own q o h d =
        by_bool (is_same_pair t n q)
        (λ e. let u = (pair_has t _ _ q e).used in absurd (d (a.digested q h u ∙ same_digest t n q w (used_before (omega arith) q h u) e ∙ sym o)))
        (λ e. e)

-- ---- every pair stands once
pub rows_pass : (t : Table) (digests : List ℕ) → RowsPass t rows digests → length t ≡ table_length → passes_table t ≡ true
unfolding is_only_pair
rows_pass t digests a long =
    passes_table_lem t (record {
      long = long;
      good = λ r l. every_at (good_row t) rows r a.good l;
      only = λ r l. implies (is_used_row t r) _ (one r l);
    })
  where
    well : (r : ℕ) → r < rows → is_used_row t r ≡ true → UsedRow t r
    well = used_before t rows digests a long (omega arith)

    no_other : (r q : ℕ) → r < rows → q < rows → is_used_row t r ≡ true → q ≢ r → is_same_pair t r q ≡ false
    no_other r q l h u d =
        ⊎_elim (λ (k : q < r). a.new r l u q k)
        (λ (k : r ≤ q). by_bool (is_same_pair t r q)
        (λ e. true_false (sym (same_back t r q (well r l u) e) ∙ a.new q h (pair_has t _ _ q e).used r (omega arith)))
        (λ e. e))
        (lt_or_le q r)

    one : (r : ℕ) → r < rows → is_used_row t r ≡ true → eqb (count rows (has_pair t (row_at t r).host (row_at t r).path)) 1 ≡ true
    one r l u = eq-eqb _ _ (count_one (is_same_pair t r) rows r l (same_self t r (well r l u)) (λ q h d. no_other r q l h u d))
