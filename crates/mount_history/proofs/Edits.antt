-- What each edit makes of a good mount table: it stays good, and which pairs it has afterwards. Assumes nothing.
use mathlib.Core.Path.{◌≡◌, refl, sym, ap, ◌∙◌, subst}
use mathlib.Core.Logic.{◌≢◌, ◌⊎◌, by_cases}
use mathlib.Core.Bool.{true, false, not}
use mathlib.Core.Option.{Option, some, none}
use mathlib.Core.List.{List}
use Prim.Native.Nat.{ℕ, zero, suc, ◌≤◌, ◌<◌}
use native.Mathlib.Decide.{ℕ_discrete}
use native.Mathlib.Omega.{arith}
use lib.Dec.{eqb, lit<, lit≤}
use lib.ListN.{length}
use borrow.Author.Tests.{eqb-true, eq-eqb, not-true}
use Rattle.kinds.specs.Mount.{rows, most_path_bytes}
use Rattle.kinds.specs.Numbers.{SERVERFAULT}
use Rattle.spec.specs.Checked.{passed}
use Rattle.mount_spec.specs.Path.{starts_with_slash}
use Rattle.mount_spec.specs.Table.{Table, Row, path_length, row_at, put_row, free_row, is_used_row, is_of_host, has_pair, find_pair, available_row, taking, adding}
use Rattle.mount_spec.specs.Table.{add_pair, striking, remove_pair, strike_row, strike_rows, remove_host}
use Rattle.laws.proofs.Count.{true_false, by_bool, and_both, lowest_passes, lowest_none}
use Rattle.laws.proofs.Passed.{refused_passed, same_passed}
use Rattle.laws.proofs.Tests.{and_true, true_nonzero}
use Rattle.mount_laws.proofs.Good.{row_short}
use Rattle.mount_laws.proofs.Puts.{SameRow, put_length, put_here, put_other}
use Rattle.mount_laws.proofs.Rows.{FitsRow, slash_long, has_length, has_row, has_good, free_good}
use Rattle.mount_history.specs.Told.{pair_of}
use Rattle.mount_history.specs.Statement.{HoldsPair}
use Rattle.mount_history.proofs.Tables.{GoodTable, pair_held, held_pair}

-- a row of the table has the pair
abbrev pub Stored : Table → Row → Type 0
Stored t v = (r : ℕ) × HoldsPair t v r

-- ---- a row that means the same in both tables
module _ (t u : Table) (r : ℕ) (s : SameRow t u r) (v : Row) where
  held_on : HoldsPair t v r → HoldsPair u v r
  unfolding is_used_row
  held_on h = record { below = h.below; used = ap (λ (n : ℕ). not (eqb n 0)) s.long ∙ h.used; pair = s.all ∙ h.pair }

  held_back : HoldsPair u v r → HoldsPair t v r
  unfolding is_used_row
  held_back h = record { below = h.below; used = ap (λ (n : ℕ). not (eqb n 0)) (sym s.long) ∙ h.used; pair = sym s.all ∙ h.pair }

-- ---- a row is made free
-- the pairs in rows that an edit keeps are those of the table after it
pub record Thinned (t u : Table) (Keeps : ℕ → Row → Type 0) : Type 0 where
  pub good : GoodTable u
  pub back : (v : Row) (q : ℕ) → HoldsPair u v q → HoldsPair t v q × Keeps q v
  pub on : (v : Row) (q : ℕ) → HoldsPair t v q → Keeps q v → HoldsPair u v q

free_fits : FitsRow free_row
free_fits = record { host = lit< tt; path = lit≤ tt }

module _ (t : Table) (g : GoodTable t) (r : ℕ) (l : r < rows) where
  other : (v : Row) → FitsRow v → (q : ℕ) → q < rows → q ≢ r → SameRow t (put_row t r v) q
  other v f q k d = put_other t r v g.long l f q d (row_short t q (g.good q k))

  freed : Thinned t (put_row t r free_row) (λ q v. q ≢ r)
  unfolding is_used_row
  freed =
      let u = put_row t r free_row in
      let here = put_here t r free_row g.long l free_fits in
      let same = other free_row free_fits in
      let back : (v : Row) (q : ℕ) → HoldsPair u v q → HoldsPair t v q × (q ≢ r) =
      λ v q h. by_cases (ℕ_discrete q r)
      (λ e. true_false (sym h.used ∙ ap (λ (n : ℕ). not (eqb n 0)) (ap (path_length u) e ∙ has_length u r free_row free_fits here)))
      (λ d. (held_back t u q (same q h.below d) v h, d)) in
      record {
        good = record {
          long = put_length t r free_row g.long l free_fits;
          good = λ q k. by_cases (ℕ_discrete q r) (λ e. rw e (free_good u r here)) (λ d. (same q k d).good ∙ g.good q k);
          once = λ v p q a b. g.once v p q (back v p a).0 (back v q b).0;
        };
        back = back;
        on = λ v q h d. held_on t u q (same q h.below d) v h;
      }

-- ---- a pair that is not found
not_found : (t : Table) → GoodTable t → (host : ℕ) (path : List ℕ) → find_pair t host path ≡ none → Stored t (pair_of host path) → ⊥
unfolding find_pair
not_found t g host path e h =
    let (r, a) = h in
    true_false (sym (held_pair t (pair_of host path) r g.long (g.good r a.below) a) ∙ lowest_none (has_pair t host path) rows r e a.below)

-- ---- MNT
-- a table that has a pair, and all pairs that another has, and no other
pub record Added (t u : Table) (v : Row) : Type 0 where
  pub good : GoodTable u
  pub back : (w : Row) → Stored u w → (w ≡ v) ⊎ Stored t w
  pub on : (w : Row) → Stored t w → Stored u w
  pub new : Stored u v

-- a free row gets a pair that the table does not have
filled : (t : Table) → GoodTable t → (r : ℕ) → r < rows → is_used_row t r ≡ false → (v : Row) → FitsRow v → starts_with_slash v.path ≡ true
    → (Stored t v → ⊥) → Added t (put_row t r v) v
unfolding is_used_row
filled t g r l free v f slash fresh =
    let u = put_row t r v in
    let here = put_here t r v g.long l f in
    let same = other t g r l v f in
    let row : row_at u r ≡ v = has_row u r v f here in
    let back : (w : Row) (q : ℕ) → HoldsPair u w q → q ≢ r → HoldsPair t w q = λ w q h d. held_back t u q (same q h.below d) w h in
    let is : (w : Row) (q : ℕ) → HoldsPair u w q → q ≡ r → w ≡ v = λ w q h e. sym h.pair ∙ ap (row_at u) e ∙ row in
    let two : (w : Row) (p q : ℕ) → HoldsPair u w p → HoldsPair u w q → p ≡ r → q ≢ r → ⊥ =
    λ w p q a b e d. fresh (q, subst (λ x. HoldsPair t x q) (is w p a e) (back w q b d)) in
    record {
      good = record {
        long = put_length t r v g.long l f;
        good = λ q k. by_cases (ℕ_discrete q r) (λ e. rw e (has_good u r v f here slash)) (λ d. (same q k d).good ∙ g.good q k);
        once = λ w p q a b.
            by_cases (ℕ_discrete p r)
            (λ e. by_cases (ℕ_discrete q r) (λ z. e ∙ sym z) (λ d. absurd (two w p q a b e d)))
            (λ d. by_cases (ℕ_discrete q r) (λ z. absurd (two w q p b a z d)) (λ z. g.once w p q (back w p a d) (back w q b z)));
      };
      back = λ w h. by_cases (ℕ_discrete h.0 r) (λ e. ◌⊎◌.inl (is w h.0 h.1 e)) (λ d. ◌⊎◌.inr (h.0, back w h.0 h.1 d));
      on = λ w h.
          let (q, a) = h in
          (q, held_on t u q (same q a.below (λ e. true_false (sym a.used ∙ ap (λ (k : ℕ). not (eqb (path_length t k) 0)) e ∙ free))) w a);
      new = (r, record { below = l; used = true_nonzero (path_length u r) (rw (has_length u r v f here) (slash_long v.path slash)); pair = row });
    }

pub added_pair : (t : Table) → GoodTable t → (host : ℕ) (path : List ℕ) → host < 4294967296 → length path ≤ most_path_bytes → starts_with_slash path ≡ true
    → (u : Table) → add_pair t host path ≡ passed u → Added t u (pair_of host path)
unfolding add_pair find_pair available_row
added_pair t g host path small short slash u = from (find_pair t host path) refl
  where
    v : Row
    v = pair_of host path

    take : (x : Option ℕ) → available_row t ≡ x → (Stored t v → ⊥) → taking t host path x ≡ passed u → Added t u v
    take none e fresh z = absurd (refused_passed SERVERFAULT u z)
    take (some r) e fresh z =
        let p = lowest_passes (λ k. not (is_used_row t k)) rows r e in
        subst (λ x. Added t x v) (same_passed (put_row t r v) u z)
        (filled t g r p.below (not-true (is_used_row t r) p.passes) v (record { host = small; path = short }) slash fresh)

    from : (x : Option ℕ) → find_pair t host path ≡ x → adding t host path x ≡ passed u → Added t u v
    from (some r) e z =
        let p = lowest_passes (has_pair t host path) rows r e in
        subst (λ x. Added t x v) (same_passed t u z)
        (record { good = g; back = λ w h. ◌⊎◌.inr h; on = λ w h. h; new = (r, pair_held t host path r p.below p.passes) })
    from none e z = take (available_row t) refl (not_found t g host path e) z

-- ---- UMNT
pub removed_pair : (t : Table) → GoodTable t → (host : ℕ) (path : List ℕ) → Thinned t (remove_pair t host path) (λ q v. v ≢ pair_of host path)
unfolding remove_pair find_pair
removed_pair t g host path = from (find_pair t host path) refl
  where
    from : (x : Option ℕ) → find_pair t host path ≡ x → Thinned t (striking t x) (λ q v. v ≢ pair_of host path)
    from none e =
        record {
          good = g;
          back = λ v q h. (h, λ z. not_found t g host path e (q, subst (λ w. HoldsPair t w q) z h));
          on = λ v q h d. h;
        }
    from (some r) e =
        let p = lowest_passes (has_pair t host path) rows r e in
        let w = pair_held t host path r p.below p.passes in
        let f = freed t g r p.below in
        record {
          good = f.good;
          back = λ v q h. let (a, d) = f.back v q h in (a, λ z. d (g.once (pair_of host path) q r (subst (λ x. HoldsPair t x q) z a) w));
          on = λ v q h d. f.on v q h (λ z. d (sym h.pair ∙ ap (row_at t) z ∙ w.pair));
        }

-- ---- UMNTALL
-- a row of the host has its number, and no pair in another row has it
host_true : (t : Table) (host r : ℕ) → is_of_host t host r ≡ true → (row_at t r).host ≡ host
unfolding is_of_host
host_true t host r e = eqb-true (row_at t r).host host (and_both (is_used_row t r) (eqb (row_at t r).host host) e).1

host_false : (t : Table) (host r : ℕ) (v : Row) → is_of_host t host r ≡ false → HoldsPair t v r → v.host ≢ host
unfolding is_of_host
host_false t host r v e h z =
    let same = eq-eqb (row_at t r).host host (ap (λ (x : Row). x.host) h.pair ∙ z) in
    true_false (sym (and_true (is_used_row t r) (eqb (row_at t r).host host) h.used same) ∙ e)

-- a pair that stays after the first n rows: in one of these, only a pair of another host
abbrev PassedBy : ℕ → ℕ → ℕ → Row → Type 0
PassedBy host n q v = q < n → v.host ≢ host

struck_row : (t : Table) → GoodTable t → (host r : ℕ) → r < rows → Thinned t (strike_row t host r) (λ q v. q ≡ r → v.host ≢ host)
unfolding strike_row
struck_row t g host r l =
    by_bool (is_of_host t host r)
    (λ e. let f = freed t g r l in rw e (record {
      good = f.good;
      back = λ v q h. let (a, d) = f.back v q h in (a, λ z. absurd (d z));
      on = λ v q h d. f.on v q h (λ z. d z (sym (ap (λ (x : Row). x.host) h.pair) ∙ ap (λ (k : ℕ). (row_at t k).host) z ∙ host_true t host r e));
    }))
    (λ e. rw e (record {
      good = g;
      back = λ v q h. (h, λ z. host_false t host r v e (subst (HoldsPair t v) z h));
      on = λ v q h d. h;
    }))

struck_rows : (t : Table) → GoodTable t → (host n : ℕ) → n ≤ rows → Thinned t (strike_rows t host n) (PassedBy host n)
unfolding strike_rows
struck_rows t g host zero l = record { good = g; back = λ v q h. (h, λ z. absurd (omega arith)); on = λ v q h d. h }
struck_rows t g host (suc n) l =
    let f = struck_rows t g host n (omega arith) in
    let s = struck_row (strike_rows t host n) f.good host n (omega arith) in
    record {
      good = s.good;
      back = λ v q h.
          let (a, d) = s.back v q h in
          let (b, c) = f.back v q a in
          (b, λ (z : q < suc n). by_cases (ℕ_discrete q n) d (λ k. c (omega (arith, k))));
      on = λ v q h d. s.on v q (f.on v q h (λ z. d (omega arith))) (λ z. d (omega arith));
    }

pub removed_host : (t : Table) → GoodTable t → (host : ℕ) → Thinned t (remove_host t host) (λ q v. v.host ≢ host)
unfolding remove_host
removed_host t g host =
    let f = struck_rows t g host rows (omega arith) in
    record {
      good = f.good;
      back = λ v q h. let (a, d) = f.back v q h in (a, d a.below);
      on = λ v q h d. f.on v q h (λ z. d);
    }
