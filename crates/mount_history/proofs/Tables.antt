-- What the check of a mount table says of its pairs: exactly when a table passes. Assumes nothing.
use mathlib.Core.Path.{◌≡◌, refl, sym, ap, ◌∙◌}
use mathlib.Core.Bool.{true}
use mathlib.Core.List.{List}
use Prim.Native.Nat.{ℕ, ◌<◌}
use native.Mathlib.Omega.{arith}
use lib.Dec.{eqb}
use lib.ListN.{length}
use borrow.Author.Tests.{eqb-true, eq-eqb}
use Rattle.kinds.specs.Mount.{rows, table_length}
use Rattle.spec.specs.Count.{count}
use Rattle.laws.proofs.Count.{by_bool, count_one}
use Rattle.laws.proofs.Tests.{implied, implies}
use Rattle.laws.proofs.Unique.{one_passes}
use Rattle.mount_spec.specs.Table.{Table, Row, row_at, is_used_row, has_pair, good_row, is_only_pair, passes_table}
use Rattle.mount_laws.proofs.Checked.{table_passes, passes_table_lem}
use Rattle.mount_laws.proofs.Good.{row_exact}
use Rattle.mount_laws.proofs.Pairs.{pair_has, has_pair_lem}
use Rattle.mount_history.specs.Told.{pair_of}
use Rattle.mount_history.specs.Statement.{HoldsPair}

-- "Mount table: 33,024 bytes"; each row as the check wants it; "no pair twice"
pub record GoodTable (t : Table) : Type 0 where
  pub long : length t ≡ table_length
  pub good : (r : ℕ) → r < rows → good_row t r ≡ true
  pub once : (v : Row) (q r : ℕ) → HoldsPair t v q → HoldsPair t v r → q ≡ r

-- ---- the test for a pair
pub pair_held : (t : Table) (host : ℕ) (path : List ℕ) (r : ℕ) → r < rows → has_pair t host path r ≡ true → HoldsPair t (pair_of host path) r
pair_held t host path r l e =
    let h = pair_has t host path r e in
    record { below = l; used = h.used; pair = λ i. record { host = h.host i; path = h.path i } }

pub held_pair : (t : Table) (v : Row) (r : ℕ) → length t ≡ table_length → good_row t r ≡ true → HoldsPair t v r → has_pair t v.host v.path r ≡ true
held_pair t v r long g h =
    let host = ap (λ (x : Row). x.host) h.pair in
    let path = ap (λ (x : Row). x.path) h.pair in
    has_pair_lem t v.host v.path r
    (record { used = h.used; host = host; long = sym (row_exact t r long h.below g) ∙ ap length path; path = path })

-- ---- the check
pub table_good : (t : Table) → passes_table t ≡ true → GoodTable t
unfolding is_only_pair
table_good t e =
    let w = table_passes t e in
    record {
      long = w.long;
      good = w.good;
      once = λ v q r g h.
          let p = has_pair t (row_at t r).host (row_at t r).path in
          let c = eqb-true (count rows p) 1 (implied (is_used_row t r) (eqb (count rows p) 1) (w.only r h.below) h.used) in
          one_passes rows p q r (omega arith) g.below h.below
          (held_pair t (row_at t r) q w.long (w.good q g.below) (record { below = g.below; used = g.used; pair = g.pair ∙ sym h.pair }))
          (held_pair t (row_at t r) r w.long (w.good r h.below) (record { below = h.below; used = h.used; pair = refl }));
    }

pub good_passes : (t : Table) → GoodTable t → passes_table t ≡ true
unfolding is_only_pair
good_passes t g =
    passes_table_lem t (record {
      long = g.long;
      good = g.good;
      only = λ r l.
          let p = has_pair t (row_at t r).host (row_at t r).path in
          implies (is_used_row t r) (eqb (count rows p) 1) (λ u.
          let h : HoldsPair t (row_at t r) r = record { below = l; used = u; pair = refl } in
          eq-eqb (count rows p) 1 (count_one p rows r l (held_pair t (row_at t r) r g.long (g.good r l) h) (λ q k d. by_bool (p q)
          (λ b. absurd (d (g.once (row_at t r) q r (pair_held t (row_at t r).host (row_at t r).path q k b) h)))
          (λ b. b))));
    })
