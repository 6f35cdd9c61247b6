-- Comparing a name record with a name, test by test. Assumes nothing.
use mathlib.Core.Path.{◌≡◌, refl, sym, ◌∙◌}
use mathlib.Core.Logic.{◌≢◌, by_cases}
use mathlib.Core.Bool.{true, false, and-false, and-true}
use mathlib.Core.List.{List}
use mathlib.Core.Option.{none}
use Prim.Native.Nat.{ℕ, ◌+◌}
use native.Mathlib.Decide.{ℕ_discrete}
use lib.ListN.{length}
use borrow.Author.Tests.{eq-eqb, ne_eqb}
use Rattle.kinds.specs.Layout.{child_offset, length_offset, text_offset}
use Rattle.spec.specs.Bytes.{part, be_at, same_bytes, pairs}
use Rattle.spec.specs.Image.{Store, names, name_start, name_at, name_from, name_length}
use Rattle.spec.specs.Room.{is_used_name, is_in, is_naming, is_named, find_name, compared_at, compared}
use Rattle.laws.proofs.Count.{sum_zero}
use Rattle.laws.proofs.Searches.{lowest_nothing}

module _ (s : Store) (d n : ℕ) where
  pub elsewhere : (name_at s n).directory ≢ d → is_in s d n ≡ false
  unfolding is_in
  elsewhere f = rw (ne_eqb _ _ f) (and-false (is_used_name s n))

  pub in_directory_lem : (name_at s n).directory ≡ d → is_in s d n ≡ is_used_name s n
  unfolding is_in
  in_directory_lem e = rw (eq-eqb _ _ e) (and-true (is_used_name s n))

  pub names_another : (name_at s n).child ≢ d → is_naming s d n ≡ false
  unfolding is_naming
  names_another f = rw (ne_eqb _ _ f) (and-false (is_used_name s n))

  pub names_it : (name_at s n).child ≡ d → is_naming s d n ≡ is_used_name s n
  unfolding is_naming
  names_it e = rw (eq-eqb _ _ e) (and-true (is_used_name s n))

  pub used_yes : name_length s n ≢ 0 → is_used_name s n ≡ true
  unfolding is_used_name
  used_yes f = rw (ne_eqb _ _ f)

  pub used_no : name_length s n ≡ 0 → is_used_name s n ≡ false
  unfolding is_used_name
  used_no e = rw (eq-eqb _ _ e)

  -- the fields of a record that starts at `at`
  pub directory_at_lem : (at : ℕ) → at ≡ name_start s n → be_at s at 4 ≡ (name_at s n).directory
  unfolding name_at name_from
  directory_at_lem at e = rw e

  pub child_at : (at : ℕ) → at ≡ name_start s n → be_at s (at + child_offset) 4 ≡ (name_at s n).child
  unfolding name_at name_from
  child_at at e = rw e

  pub length_at : (at : ℕ) → at ≡ name_start s n → be_at s (at + length_offset) 4 ≡ name_length s n
  unfolding name_length
  length_at at e = rw e

  pub used_in : (name_at s n).directory ≡ d → name_length s n ≢ 0 → is_in s d n ≡ true
  used_in e f = in_directory_lem e ∙ used_yes f

  pub free_in : name_length s n ≡ 0 → is_in s d n ≡ false
  unfolding is_in
  free_in e = rw (used_no e)

  -- a record that is not compared: it is in another directory, states another length, or is free
  abbrev pub Apart : List ℕ → Type 0
  Apart text = (is_named s d text n ≡ false) × (compared_at s d text n ≡ 0)

  pub elsewhere_apart : (text : List ℕ) → (name_at s n).directory ≢ d → Apart text
  unfolding is_named compared_at
  elsewhere_apart text f = rw (elsewhere f) (refl, refl)

  pub longer_apart : (text : List ℕ) → name_length s n ≢ length text → Apart text
  unfolding is_named compared_at
  longer_apart text f = rw (ne_eqb _ _ f, and-false (is_in s d n)) (refl, refl)

  pub free_apart : (text : List ℕ) → name_length s n ≡ 0 → Apart text
  unfolding is_named compared_at
  free_apart text e = rw (free_in e) (refl, refl)

  -- a used record of the directory with the name's length is compared byte by byte
  pub compared_bytes : (text : List ℕ) (len : ℕ) → (name_at s n).directory ≡ d → name_length s n ≡ len → length text ≡ len → len ≢ 0
      → (same_bytes (part s (name_start s n + text_offset) len) text ≡ is_named s d text n)
      × (pairs (part s (name_start s n + text_offset) len) text ≡ compared_at s d text n)
  unfolding is_named compared_at name_at name_from name_length
  compared_bytes text len e l t z =
      let i = used_in e (λ q. z (sym l ∙ q)) in
      rw (i, l, eq-eqb len (length text) (sym t)) (refl, refl)

-- the empty name: none is found, and nothing is compared
pub empty_name : (s : Store) (d : ℕ) (text : List ℕ) → length text ≡ 0 → (find_name s d text ≡ none) × (compared s d text ≡ 0)
unfolding find_name compared
empty_name s d text e =
    let absent = lowest_nothing (names s) (is_named s d text) (λ n l. (apart n).0) in
    (absent, rw absent (sum_zero (names s) (compared_at s d text) (λ n l. (apart n).1)))
  where
    apart : (n : ℕ) → Apart s d n text
    apart n = by_cases (ℕ_discrete (name_length s n) 0) (λ q. free_apart s d n text q) (λ f. longer_apart s d n text (λ q. f (q ∙ e)))
