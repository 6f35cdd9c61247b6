-- The pass over the name records, one further, and what it shows at the end. Assumes nothing.
use mathlib.Core.Path.{◌≡◌, refl, sym, ◌∙◌}
use mathlib.Core.Logic.{◌≢◌, by_cases, ⊎_elim}
use mathlib.Core.Bool.{true, false}
use mathlib.Core.List.{List}
use Prim.Native.Nat.{ℕ, ◌+◌, ◌≤◌, ◌<◌}
use native.Mathlib.Nat.{not-suc-le-zero}
use native.Mathlib.Decide.{ℕ_discrete}
use native.Mathlib.Omega.{arith}
use lib.Dec.{eqb}
use borrow.Author.Tests.{eq-eqb}
use Rattle.kinds.specs.Numbers.{most_objects, most_name_records}
use Rattle.spec.specs.Count.{count, every}
use Rattle.spec.specs.Image.{Store, names, name_at}
use Rattle.spec.specs.Room.{is_used_name, is_named}
use Rattle.spec.specs.Check.{good_name_record, is_distinct}
use Rattle.laws.proofs.Bytes.{lt_or_le}
use Rattle.laws.proofs.Count.{by_bool, true_false, count_one, every_at, every_all, every_more}
use Rattle.laws.proofs.Valid.{Framed, UsedName}
use Rattle.fsck_objects.specs.Objects.{Blank}
use Rattle.fsck_names.specs.Distinct.{is_same, Chains}
use Rattle.fsck_names.specs.Named.{NamedBy, LinkedBy}
use Rattle.fsck_names.specs.Names.{NamesPass}
use Rattle.fsck_names.proofs.Joins.{used_passes}
use Rattle.fsck_names.proofs.Same.{alike, same_self, same_back}
use Rattle.fsck_names.proofs.Chained.{chains_none, chains_free}
use Rattle.fsck_names.proofs.Parents.{parents_none, links_none, parents_free, links_free}

pub names_none : (s : Store) (parents links head next : List ℕ) → Blank most_objects parents → Blank most_objects links → Blank 256 head
    → Blank most_name_records next → NamesPass s 0 parents links head next
unfolding every
names_none s parents links head next a e b d =
    record {
      good = refl;
      new = λ k m l. absurd (not-suc-le-zero l);
      chains = chains_none s head next b d;
      named = parents_none s parents a;
      linked = links_none s links e;
    }

-- a free record
pub names_free : (s : Store) (n : ℕ) (parents links head next : List ℕ) → NamesPass s n parents links head next → good_name_record s n ≡ true
    → is_used_name s n ≡ false → NamesPass s (n + 1) parents links head next
names_free s n parents links head next a g u =
    record {
      good = every_more (good_name_record s) n a.good g;
      new = λ k m l q v. by_cases (ℕ_discrete k n) (λ (e : k ≡ n). true_false (sym (rw e at v) ∙ u)) (λ (d : k ≢ n). a.new k m (omega arith) q v);
      chains = chains_free s n head next a.chains u;
      named = parents_free s n parents u a.named;
      linked = links_free s n links u a.linked;
    }

-- a used record whose name is new
pub names_used : (s : Store) (n : ℕ) (parents links head next parents' links' head' next' : List ℕ) → NamesPass s n parents links head next
    → good_name_record s n ≡ true → ((m : ℕ) → m < n → is_same s n m ≡ false) → Chains s (n + 1) head' next'
    → NamedBy s (n + 1) parents' × LinkedBy s (n + 1) links' → NamesPass s (n + 1) parents' links' head' next'
names_used s n parents links head next parents' links' head' next' a g f b d =
    record {
      good = every_more (good_name_record s) n a.good g;
      new = λ k m l q v. by_cases (ℕ_discrete k n) (λ (e : k ≡ n). rw e (f m (omega arith))) (λ (x : k ≢ n). a.new k m (omega arith) q v);
      chains = b;
      named = d.0;
      linked = d.1;
    }

-- ---- every name is distinct
pub distinct_all : (s : Store) (t : Framed s) (parents links head next : List ℕ) → NamesPass s (names s) parents links head next
    → every (names s) (is_distinct s) ≡ true
unfolding is_distinct
distinct_all s t parents links head next a =
    every_all (is_distinct s) (names s) (λ n l. by_bool (is_used_name s n) (λ u. rw (u, one n l u)) (λ u. rw u))
  where
    well : (n : ℕ) → n < names s → is_used_name s n ≡ true → UsedName s n
    well n l u = used_passes s n t l u (every_at (good_name_record s) (names s) n a.good l)

    no_other : (n m : ℕ) → n < names s → m < names s → is_used_name s n ≡ true → m ≢ n → is_same s n m ≡ false
    no_other n m l h u d =
        ⊎_elim (λ (q : m < n). a.new n m l q u)
        (λ (q : n ≤ m). by_bool (is_same s n m)
        (λ e. let b = same_back s n m (well n l u) e in
        let v = by_bool (is_used_name s m) (λ x. x) (λ x. true_false (sym (alike s n m e).used ∙ x)) in
        true_false (sym b ∙ a.new m n h (omega arith) v))
        (λ e. e))
        (lt_or_le m n)

    one : (n : ℕ) → n < names s → is_used_name s n ≡ true → eqb (count (names s) (is_named s (name_at s n).directory (name_at s n).text)) 1 ≡ true
    one n l u =
        eq-eqb _ _ (count_one (is_named s (name_at s n).directory (name_at s n).text) (names s) n l (same_self s n (well n l u))
        (λ m h d. no_other n m l h u d))
