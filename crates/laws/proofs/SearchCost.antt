-- How many byte pairs a search for a name compares at most. Assumes nothing.
use mathlib.Core.Path.{◌≡◌, refl}
use mathlib.Core.Bool.{Bool, true, false, ◌&&◌, cond}
use mathlib.Core.List.{List}
use mathlib.Core.Option.{Option, some, none}
use Prim.Native.Nat.{ℕ, ◌*◌, ◌≤◌, zero-le}
use native.Mathlib.Omega.{arith}
use lib.Dec.{eqb}
use lib.ListN.{length, length-take}
use borrow.Author.Tests.{eqb-true}
use Rattle.spec.specs.Bytes.{part, pairs}
use Rattle.spec.specs.Count.{bit, count}
use Rattle.spec.specs.Image.{Store, names, name_at, name_from, name_length}
use Rattle.spec.specs.Room.{is_in, is_named, find_name, compared_at, searched, compared}
use Rattle.laws.proofs.Bytes.{pairs_bound}
use Rattle.laws.proofs.Count.{sum_fewer, sum_most, lowest_passes}

module _ (s : Store) (d : ℕ) (text : List ℕ) where
  -- of a record's name, no more pairs than it states bytes
  few_pairs : (n : ℕ) → pairs (name_at s n).text text ≤ name_length s n
  unfolding name_at name_from name_length part
  few_pairs n =
      let r = pairs_bound (name_at s n).text text in
      let l : length (name_at s n).text ≤ name_length s n = simp length-take (omega arith) in
      omega arith

  pub compared_bound : (n : ℕ) → compared_at s d text n ≤ name_length s n
  unfolding compared_at
  compared_bound n = either (is_in s d n && eqb (name_length s n) (length text))
    where
      either : (t : Bool) → cond t (pairs (name_at s n).text text) 0 ≤ name_length s n
      either true = few_pairs n
      either false = zero-le

  -- and none but at records of the directory whose length is the name's
  compared_here : (n : ℕ) → compared_at s d text n ≤ bit (is_in s d n) * length text
  unfolding compared_at
  compared_here n = from (is_in s d n) (eqb (name_length s n) (length text)) refl refl
    where
      from : (t u : Bool) → is_in s d n ≡ t → eqb (name_length s n) (length text) ≡ u
          → cond (is_in s d n && eqb (name_length s n) (length text)) (pairs (name_at s n).text text) 0 ≤ bit (is_in s d n) * length text
      from false u e q = rw e zero-le
      from true false e q = rw (e, q) zero-le
      from true true e q =
          rw (e, q) (let r = few_pairs n in let l = eqb-true (name_length s n) (length text) q in omega arith)

  -- a search compares at most as many pairs as the name has bytes, for each name of the directory
  pub compared_most : compared s d text ≤ count (names s) (is_in s d) * length text
  unfolding compared find_name
  compared_most =
      let a = sum_fewer (compared_at s d text) (searched s (find_name s d text)) (names s) (within (find_name s d text) refl) in
      let b = sum_most (compared_at s d text) (is_in s d) (length text) (names s) compared_here in
      omega arith
    where
      within : (found : Option ℕ) → find_name s d text ≡ found → searched s found ≤ names s
      within none e = omega arith
      within (some n) e = let p = lowest_passes (is_named s d text) (names s) n e in omega (arith, p.below)
