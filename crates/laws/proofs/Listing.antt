-- The entries of a listing and their bytes, over lists joined. Assumes nothing.
use mathlib.Core.Path.{◌≡◌, refl, sym, ap, ◌∙◌}
use mathlib.Core.Bool.{Bool, true, false, cond}
use mathlib.Core.List.{List, [], ◌∷◌, ◌++◌, map, map-append, append_assoc}
use Prim.Native.Nat.{ℕ, zero, suc, ◌+◌, ◌-◌, ◌≤◌}
use native.Mathlib.Omega.{arith}
use native.Mathlib.Numerals.{add-one}
use lib.Dec.{ltb, leb}
use lib.ListN.{length, take, drop, length-append, take-append-drop}
use borrow.Author.Tests.{leb-true}
use Rattle.kinds.specs.Numbers.{entry_fixed_cost}
use Rattle.spec.specs.Count.{passing}
use Rattle.spec.specs.Results.{Entry}
use Rattle.spec.specs.Procedures.Listing.{entries_above, entry_cost, fitting}
use Rattle.spec.specs.Replies.{entry_bytes, entries_bytes}
use Rattle.laws.proofs.Count.{by_bool, passing_front}
use Rattle.laws.proofs.Words.{words_length, opaque_length}

pub above_append : (cookie : ℕ) (es fs : List Entry) → entries_above cookie (es ++ fs) ≡ entries_above cookie es ++ entries_above cookie fs
unfolding entries_above
above_append cookie [] fs = refl
above_append cookie (e ∷ es) fs = from (ltb cookie e.cookie) (above_append cookie es fs)
  where
    from : (t : Bool) → entries_above cookie (es ++ fs) ≡ entries_above cookie es ++ entries_above cookie fs
        → cond t (e ∷ entries_above cookie (es ++ fs)) (entries_above cookie (es ++ fs)) ≡ cond t (e ∷ entries_above cookie es) (entries_above cookie es)
        ++ entries_above cookie fs
    from true q = ap (λ (l : List Entry). e ∷ l) q
    from false q = q

pub bytes_append : (es fs : List Entry) → entries_bytes (es ++ fs) ≡ entries_bytes es ++ entries_bytes fs
unfolding entries_bytes
bytes_append [] fs = refl
bytes_append (e ∷ es) fs = rw (bytes_append es fs, append_assoc)

-- what is taken of two lists: of the second what the first leaves
pub take_both : {A : Type 0} (n : ℕ) (xs ys : List A) → take n (xs ++ ys) ≡ take n xs ++ take (n - length xs) ys
take_both zero xs ys = let e : 0 - length xs ≡ 0 = omega arith in rw e
take_both (suc n) [] ys = let e : suc n - 0 ≡ suc n = omega arith in rw e
take_both (suc n) (x ∷ xs) ys =
    let e : suc n - suc (length xs) ≡ n - length xs = omega arith in
    rw (e, take_both n xs ys)

-- the bytes of what is taken of two lists
pub taken_bytes : (n : ℕ) (xs ys : List Entry) → entries_bytes (take n (xs ++ ys)) ≡ entries_bytes (take n xs) ++ entries_bytes (take (n - length xs) ys)
taken_bytes n xs ys = ap entries_bytes (take_both n xs ys) ∙ bytes_append (take n xs) (take (n - length xs) ys)

-- ---- what the numbers that pass give, one more and all that follow
module _ {A : Type 0} (f : ℕ → A) (p : ℕ → Bool) where
  pub passing_more : (n : ℕ) → map f (passing (n + 1) p) ≡ map f (passing n p) ++ map f (cond (p n) (n ∷ []) [])
  unfolding passing
  passing_more n = rw add-one (map-append f (passing n p) (cond (p n) (n ∷ []) []))

  pub passing_split : (n m : ℕ) → n ≤ m → map f (passing m p) ≡ map f (passing n p) ++ map f (drop (length (passing n p)) (passing m p))
  passing_split n m h =
      let i = length (passing n p) in
      ap (map f) (sym (take-append-drop i (passing m p)))
      ∙ map-append f (take i (passing m p)) (drop i (passing m p))
      ∙ ap (λ (l : List ℕ). map f l ++ map f (drop i (passing m p))) (passing_front p n m h)

-- ---- what an entry costs
pub entry_length : (e : Entry) → length (entry_bytes e) ≡ entry_cost entry_fixed_cost e
unfolding entry_bytes
entry_length e = rw (length-append, length-append, words_length, opaque_length, words_length) (omega arith)

-- the run that is sent is the front of the entries, and its bytes fit the room
pub fitting_front : (each room : ℕ) (es : List Entry) → fitting each room es ≡ take (length (fitting each room es)) es
unfolding fitting
fitting_front each room [] = refl
fitting_front each room (e ∷ es) =
    by_bool (leb (entry_cost each e) room)
    (λ t. rw t (ap (λ (l : List Entry). e ∷ l) (fitting_front each (room - entry_cost each e) es)))
    (λ t. rw t)

pub fitting_bytes : (room : ℕ) (es : List Entry) → length (entries_bytes (fitting entry_fixed_cost room es)) ≤ room
unfolding fitting entries_bytes
fitting_bytes room [] = omega arith
fitting_bytes room (e ∷ es) =
    by_bool (leb (entry_cost entry_fixed_cost e) room)
    (λ t. let rest = fitting_bytes (room - entry_cost entry_fixed_cost e) es in let l = leb-true (entry_cost entry_fixed_cost e) room t in
    rw (t, length-append, entry_length) (omega arith))
    (λ t. rw t (omega arith))
