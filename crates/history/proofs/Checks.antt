-- Handles and names as checks find them. Assumes nothing.
use mathlib.Core.Path.{◌≡◌, ◌∙◌}
use mathlib.Core.Bool.{false, ◌&&◌, not}
use mathlib.Core.Option.{some, none}
use mathlib.Core.List.{List}
use Prim.Native.Nat.{ℕ, ◌<◌}
use native.Mathlib.Omega.{arith}
use lib.Dec.{leb}
use lib.ListN.{length}
use borrow.Author.Tests.{ne_eqb, not-true}
use Rattle.kinds.specs.Numbers.{most_name_bytes}
use Rattle.spec.specs.Checked.{passed}
use Rattle.spec.specs.Handles.{handle_of, check_name}
use Rattle.spec.specs.Image.{Store, names}
use Rattle.spec.specs.Names.{is_dots, good_bytes, good_name}
use Rattle.spec.specs.Room.{is_named, find_name}
use Rattle.laws.proofs.Count.{and_both, lowest_passes, lowest_none}
use Rattle.laws.proofs.Passed.{Reached}
use Rattle.laws.proofs.Range.{Below}
use Rattle.laws.proofs.Searches.{count_nothing}
use Rattle.laws.proofs.Valid.{GoodName, GoodNames, good_name_lem}
use Rattle.history.specs.Book.{handle_bytes}
use Rattle.history.proofs.Sum.{holds_true}
use Rattle.history.proofs.View.{At, at?, entries_at}
use Rattle.history.proofs.Handles.{handle_of_lem}
use Rattle.history.proofs.Seen.{view, named_same, entries_same}

-- the bytes of a handle that reaches an object are the object's handle
pub handle_reached : (s : Store) (h : List ℕ) (o : ℕ) → Reached s h o → Below 256 h → h ≡ handle_of s o
unfolding handle_of
handle_reached s h o w b = handle_of_lem h w.handle_length_lem b ∙ (λ i. handle_bytes (w.same_stamp i) (w.is_object i) (w.same_generation_lem i))

-- a good name passes the tests of names in calls
pub name_checks : (text : List ℕ) → GoodName text → (check_name text ≡ passed tt) × (is_dots text ≡ false)
unfolding check_name good_name
name_checks text g =
    let a = and_both (leb 1 (length text) && leb (length text) most_name_bytes && good_bytes text) (not (is_dots text)) (good_name_lem text g) in
    let b = and_both (leb 1 (length text) && leb (length text) most_name_bytes) (good_bytes text) a.0 in
    let c = and_both (leb 1 (length text)) (leb (length text) most_name_bytes) b.0 in
    (rw (ne_eqb (length text) 0 (λ z. omega (arith, g.some_byte)), c.1, b.1), not-true (is_dots text) a.1)

-- a name that is found, and one that is not
module _ (s : Store) (N : GoodNames s) (d : ℕ) (text : List ℕ) where
  pub found_name_lem : (n : ℕ) → find_name s d text ≡ some n → (n < names s) × At (view s) n d text
  unfolding find_name
  found_name_lem n e =
      let x = lowest_passes (is_named s d text) (names s) n e in
      (x.below, holds_true (at? (view s) n d text) (named_same s N d text n x.below ∙ x.passes))

  pub no_name : find_name s d text ≡ none → entries_at (names s) (view s) d text ≡ 0
  unfolding find_name
  no_name e = entries_same s N d text ∙ count_nothing (names s) (is_named s d text) (λ i l. lowest_none (is_named s d text) (names s) i e l)
