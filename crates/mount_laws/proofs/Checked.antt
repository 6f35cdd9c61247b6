-- The check of a mount table, taken apart and put together. Assumes nothing.
use mathlib.Core.Path.{◌≡◌}
use mathlib.Core.Bool.{true, ◌&&◌}
use Prim.Native.Nat.{ℕ, ◌<◌}
use lib.Dec.{eqb}
use lib.ListN.{length}
use borrow.Author.Tests.{eqb-true, eq-eqb}
use Rattle.kinds.specs.Mount.{rows, table_length}
use Rattle.spec.specs.Count.{every}
use Rattle.laws.proofs.Count.{and_both, every_at, every_all}
use Rattle.laws.proofs.Tests.{and_true}
use Rattle.mount_spec.specs.Table.{Table, good_row, is_only_pair, passes_table}

-- "Mount table: 33,024 bytes"; each row passes by itself; "no pair twice"
pub record Passes (t : Table) : Type 0 where
  pub long : length t ≡ table_length
  pub good : (r : ℕ) → r < rows → good_row t r ≡ true
  pub only : (r : ℕ) → r < rows → is_only_pair t r ≡ true

pub table_passes : (t : Table) → passes_table t ≡ true → Passes t
unfolding passes_table
table_passes t e =
    let a = eqb (length t) table_length in
    let b = every rows (good_row t) in
    let (x, only) = and_both (a && b) (every rows (is_only_pair t)) e in
    let (y, good) = and_both a b x in
    record {
      long = eqb-true (length t) table_length y;
      good = λ r l. every_at (good_row t) rows r good l;
      only = λ r l. every_at (is_only_pair t) rows r only l;
    }

pub passes_table_lem : (t : Table) → Passes t → passes_table t ≡ true
unfolding passes_table
passes_table_lem t p =
    and_true _ _ (and_true _ _ (eq-eqb (length t) table_length p.long) (every_all (good_row t) rows p.good)) (every_all (is_only_pair t) rows p.only)
