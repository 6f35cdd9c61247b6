-- The table of the directories that objects are in, as far as it is filled. Assumes nothing.
use mathlib.Core.Path.{◌≡◌, refl, sym, subst, ◌∙◌}
use mathlib.Core.Logic.{◌≢◌, by_cases}
use mathlib.Core.Bool.{true, false}
use mathlib.Core.List.{List}
use mathlib.Core.Option.{none}
use Prim.Native.Nat.{ℕ, ◌+◌, ◌-◌, ◌<◌}
use native.Mathlib.Decide.{ℕ_discrete}
use native.Mathlib.Omega.{arith}
use lib.ListN.{length, get_or, set, replicate, length-set, length-replicate, get_or-replicate}
use lib.Seq.{get_or-set_same, get_or-set_other}
use Rattle.kinds.specs.Numbers.{most_objects}
use Rattle.spec.specs.Count.{passing, lowest}
use Rattle.spec.specs.Image.{Store, names, name_at}
use Rattle.spec.specs.Room.{is_used_name, is_naming, parent}
use Rattle.laws.proofs.Count.{lowest_more, lowest_hit}
use Rattle.store_search.specs.Parents.{ParentTable}
use Rattle.store_search.proofs.Named.{names_another, names_it}

-- with the records from n on: an object that no record before n names has its entry
pub record FilledFrom (s : Store) (n : ℕ) (table : List ℕ) : Type 0 where
  pub long : length table ≡ most_objects
  pub entries : (o : ℕ) → o < most_objects → lowest n (is_naming s o) ≡ none → get_or table o 0 ≡ parent s o

module _ (s : Store) where
  pub filled_none : FilledFrom s (names s) (replicate most_objects 0)
  unfolding parent
  filled_none = record { long = length-replicate {A = ℕ} most_objects 0; entries = λ o l e. rw e (get_or-replicate most_objects o 0 0 l) }

  pub filled_all : (table : List ℕ) → FilledFrom s 0 table → ParentTable s table
  unfolding lowest passing
  filled_all table f = record { long = f.long; entries = λ o l. f.entries o l refl }

  module _ (n : ℕ) (positive : 0 < n) (below : n - 1 < names s) (table : List ℕ) (f : FilledFrom s n table) where
    -- the record does not name the object
    passed_by : (o : ℕ) → o < most_objects → lowest (n - 1) (is_naming s o) ≡ none → is_naming s o (n - 1) ≡ false → get_or table o 0 ≡ parent s o
    passed_by o l e t =
        let next : n - 1 + 1 ≡ n = omega arith in
        f.entries o l (subst (λ (m : ℕ). lowest m (is_naming s o) ≡ none) next (lowest_more (is_naming s o) (n - 1) e t))

    pub filled_free : is_used_name s (n - 1) ≡ false → FilledFrom s (n - 1) table
    unfolding is_naming
    filled_free u = record { long = f.long; entries = λ o l e. passed_by o l e (rw u) }

    pub filled_used : (c d : ℕ) → is_used_name s (n - 1) ≡ true → c ≡ (name_at s (n - 1)).child → d ≡ (name_at s (n - 1)).directory → c < most_objects
        → FilledFrom s (n - 1) (set table c d)
    unfolding parent
    filled_used c d u ec ed k =
        record {
          long = simp length-set f.long;
          entries = λ o l e. by_cases (ℕ_discrete o c)
              (λ (x : o ≡ c). rw (lowest_hit (is_naming s o) (n - 1) (names s) e (names_it s o (n - 1) (sym ec ∙ sym x) ∙ u) below)
              (rw x (get_or-set_same table c d 0 (omega (arith, f.long))) ∙ ed))
              (λ (x : o ≢ c). get_or-set_other table c o d 0 x ∙ passed_by o l e (names_another s o (n - 1) (λ y. x (sym y ∙ sym ec))));
        }
