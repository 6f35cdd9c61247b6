-- What is known of a name record that was found, and of the directory that an object is in. Assumes nothing.
use Prim.Native.Nat.{ℕ, ◌<◌}
use mathlib.Core.Path.{◌≡◌, refl, sym, ap, ◌∙◌}
use mathlib.Core.List.{List}
use mathlib.Core.Option.{Option, some, none}
use Rattle.std.specs.Prelude as Code
use Rattle.std.specs.Prelude.{Some, None, Ok, Err, ok_or}
use lib.Dec.{eqb}
use Rattle.kinds.specs.declared.numbers.NameNumber.{NameNumber}
use Rattle.spec.specs.Count.{lowest}
use Rattle.spec.specs.Image.{Store, objects, names, name_at}
use Rattle.spec.specs.Room.{is_used_name, is_naming, find_name, directory_of, parent}
use Rattle.laws.proofs.Count.{and_both, lowest_passes}
use Rattle.laws.proofs.GoodRecords.{GoodRecords, used_at}
use Rattle.laws.proofs.Passed.{found_record}
use Rattle.store_records.proofs.Good.{used_record}
use Rattle.store_search.specs.Found.{found_name}

-- it lies in the store, and so does the object that it names
pub record Entry (s : Store) (n : ℕ) : Type 0 where
  pub record_below : n < names s
  pub child_below : (name_at s n).child < objects s

pub found_entry : (s : Store) (g : GoodRecords s) (d : ℕ) (text : List ℕ) (n : ℕ) → find_name s d text ≡ some n → Entry s n
found_entry s g d text n e =
    let r = found_record s d text n e in
    record { record_below = r.0; child_below = (used_at s g n r.0 r.1).0 }

-- the same of the answer of the code
pub name_found : (s : Store) (g : GoodRecords s) (d : ℕ) (text : List ℕ) (r : Code.Option NameNumber) (n : NameNumber) → r ≡ Some n → found_name r ≡ find_name s d text
    → Entry s n.0
name_found s g d text r n is e = found_entry s g d text n.0 (sym e ∙ ap found_name is)

-- what is found, or an error where nothing is
pub found_ok : {A E : Type 0} (r : Code.Option A) (e : E) (x : A) → ok_or r e ≡ Ok x → r ≡ Some x
found_ok (Some y) e x q = cc
found_ok None e x q = cc

pub nothing_err : {A E : Type 0} (r : Code.Option A) (e y : E) → ok_or r e ≡ Err y → (r ≡ None) × (y ≡ e)
nothing_err (Some z) e y q = (cc, cc)
nothing_err None e y q = (refl, cc)

-- the directory that an object is in is an object of the store
pub parent_below : (s : Store) (g : GoodRecords s) (o : ℕ) → parent s o < objects s
unfolding parent is_naming
parent_below s g o = from (lowest (names s) (is_naming s o)) refl
  where
    from : (found : Option ℕ) → lowest (names s) (is_naming s o) ≡ found → directory_of s found < objects s
    from none e = g.sound.shaped.some_object
    from (some n) e =
        let p = lowest_passes (is_naming s o) (names s) n e in
        (used_record s g n p.below (and_both (is_used_name s n) (eqb (name_at s n).child o) p.passes).0).directory
