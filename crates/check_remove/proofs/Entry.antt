-- What is known of an entry that passed its checks. Assumes nothing.
use Prim.Native.Nat.{ℕ, ◌+◌, ◌≤◌}
use mathlib.Core.Path.{◌≡◌, sym, ap, ◌∙◌}
use mathlib.Core.List.{List}
use lib.ListN.{length}
use native.Mathlib.Omega.{arith}
use Rattle.std.specs.Prelude.{Result, Ok}
use Rattle.kinds.specs.Layout.{object_length, name_record_length}
use Rattle.kinds.specs.declared.numbers.NameNumber.{NameNumber}
use Rattle.kinds.specs.declared.numbers.Status.{Status}
use Rattle.spec.specs.Image.{Store, name_at, name_start, object_start}
use Rattle.spec.specs.Procedures.Removal.{check_entry}
use Rattle.laws.proofs.GoodRecords.{GoodRecords}
use Rattle.laws.proofs.Passed.{entry_passed}
use Rattle.store_search.proofs.Entry.{Entry, found_entry}
use Rattle.check_remove.specs.Meaning.{entry_checked_of}

module _ (s : Store) (g : GoodRecords s) (d : ℕ) (text : List ℕ) (dots : ℕ) (r : Result NameNumber Status) (n : NameNumber) (is : r ≡ Ok n)
    (e : entry_checked_of r ≡ check_entry s d text dots) where
  pub entry_found : Entry s n.0
  entry_found = found_entry s g d text n.0 (entry_passed s d text dots n.0 (sym e ∙ ap entry_checked_of is)).1

  -- it lies in the store
  pub record_inside : name_start s n.0 + name_record_length ≤ length s
  record_inside = omega (arith, entry_found.record_below)

  -- and so does its object
  pub child_inside : object_start (name_at s n.0).child + object_length ≤ length s
  child_inside = omega (arith, entry_found.child_below)
