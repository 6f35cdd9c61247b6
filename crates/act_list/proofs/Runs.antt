-- A run that is built entry by entry is the longest that fits. Assumes nothing.
use Prim.Native.Nat.{ℕ, ◌+◌, ◌-◌, ◌≤◌, ◌<◌}
use mathlib.Core.Path.{◌≡◌, refl, sym, ap, ◌∙◌}
use mathlib.Core.Bool.{Bool, true, false, not, ◌&&◌, cond, and-true, and-false}
use mathlib.Core.List.{List, [], ◌∷◌, ◌++◌, map, map-append}
use native.Mathlib.Nat.{add-zero}
use native.Mathlib.Omega.{arith}
use lib.Dec.{eqb, leb, ltb, eqb-zero-suc, eqb-suc-suc}
use lib.ListN.{length, drop}
use borrow.Author.Tests.{lt-ltb, le-ltb, le-leb, lt-leb}
use Rattle.kinds.specs.Numbers.{most_name_bytes, entry_fixed_cost}
use Rattle.spec.specs.Bytes.{be_at}
use Rattle.spec.specs.Count.{passing}
use Rattle.spec.specs.Image.{Store, names, name_start, name_at, name_from, name_length}
use Rattle.spec.specs.Procedures.Listing.{entry_of, dot_entries, named_entries, entries, entries_above, fitting}
use Rattle.spec.specs.Results.{Entry}
use Rattle.spec.specs.Room.{is_used_name, is_in}
use Rattle.laws.proofs.Count.{by_bool, passing_hit, passing_miss}
use Rattle.laws.proofs.GoodRecords.{GoodRecords}
use Rattle.laws.proofs.Listing.{passing_split}
use Rattle.laws.proofs.RecordRange.{text_length}
use Rattle.laws.proofs.Valid.{true_used, false_used}
use Rattle.act_list.specs.Run.{cost, open_run, length_in, fitted, extended, run_of}
use Rattle.act_list.specs.declared.Run.{Run}

-- ---- an entry adds at most one
pub extended_few : (given : ℕ) (run : Run) (cookie long : ℕ) → (extended given run cookie long).count ≤ run.count + 1
unfolding extended fitted
extended_few given run cookie long =
    by_bool (ltb given cookie)
    (λ t. by_bool run.full (λ u. rw (t, u) (omega arith))
    (λ u. by_bool (leb (cost long) run.room) (λ v. rw (t, u, v) (omega arith)) (λ v. rw (t, u, v) (omega arith))))
    (λ t. rw t (omega arith))

abbrev ended_run : ℕ → ℕ → Run
ended_run room count = record { room = room; count = count; full = true }

-- ---- entries after others, and after a run that has ended
pub run_append : (given : ℕ) (run : Run) (xs ys : List Entry) → run_of given run (xs ++ ys) ≡ run_of given (run_of given run xs) ys
unfolding run_of
run_append given run [] ys = refl
run_append given run (e ∷ xs) ys = run_append given (extended given run e.cookie (length e.name)) xs ys

extended_ended : (given : ℕ) (run : Run) (cookie long : ℕ) → run.full ≡ true → extended given run cookie long ≡ run
unfolding extended
extended_ended given run cookie long t =
    by_bool (ltb given cookie) (λ u. rw u (ap (λ (x : Bool). cond x run (fitted run long)) t)) (λ u. rw u)

pub run_ended : (given : ℕ) (run : Run) (es : List Entry) → run.full ≡ true → run_of given run es ≡ run
unfolding run_of
run_ended given run [] t = refl
run_ended given run (e ∷ es) t = ap (λ (r : Run). run_of given r es) (extended_ended given run e.cookie (length e.name) t) ∙ run_ended given run es t

-- ---- the name record that starts at `at`, by the length of its name in directory d
module _ (s : Store) (d n at : ℕ) (p : at ≡ name_start s n) where
  in_same : (t : Bool) → eqb (be_at s at 4) d ≡ t → is_in s d n ≡ is_used_name s n && t
  unfolding is_in name_at name_from
  in_same t e = ap (λ (x : Bool). is_used_name s n && x) (ap (λ (x : ℕ). eqb (be_at s x 4) d) (sym p) ∙ e)

  length_same : eqb (be_at s at 4) d ≡ true → length_in s at d ≡ name_length s n
  unfolding name_length
  length_same e = rw (e, p)

  length_none : eqb (be_at s at 4) d ≡ false → length_in s at d ≡ 0
  length_none e = rw e

  pub is_absent : length_in s at d ≡ 0 → is_in s d n ≡ false
  is_absent z =
      by_bool (eqb (be_at s at 4) d)
      (λ t. in_same true t ∙ and-true (is_used_name s n) ∙ false_used s n (sym (length_same t) ∙ z))
      (λ t. in_same false t ∙ and-false (is_used_name s n))

  pub is_present : 0 < length_in s at d → (is_in s d n ≡ true) × (length_in s at d ≡ name_length s n)
  is_present h =
      by_bool (eqb (be_at s at 4) d)
      (λ t. (in_same true t ∙ and-true (is_used_name s n) ∙ true_used s n (omega (arith, length_same t)), length_same t))
      (λ t. absurd (omega (arith, length_none t)))

pub named_here : (s : Store) (d n at long : ℕ) → GoodRecords s → n < names s → at ≡ name_start s n → long ≡ length_in s at d → 0 < long
    → (is_in s d n ≡ true) × (long ≡ length (name_at s n).text) × (long ≤ most_name_bytes)
named_here s d n at long g l p q z =
    let h = g.sound.shaped in
    let k = g.sound.short n l in
    let w = is_present s d n at p (omega (arith, q)) in
    (w.0, q ∙ w.1 ∙ sym (text_length s n (omega arith)), omega (arith, q, w.1))

-- ---- a run that has not ended, over one name record
named_hit : (s : Store) (d i : ℕ) → is_in s d i ≡ true → named_entries s d (i + 1) ≡ named_entries s d i ++ (entry_of s i ∷ [])
named_hit s d i t = ap (map (entry_of s)) (passing_hit (is_in s d) i t) ∙ map-append (entry_of s) (passing i (is_in s d)) (i ∷ [])

module _ (s : Store) (d given : ℕ) (start : Run) (i room count : ℕ) (e : open_run room count ≡ run_of given start (named_entries s d i)) where
  pub over_absent : is_in s d i ≡ false → open_run room count ≡ run_of given start (named_entries s d (i + 1))
  over_absent t = rw (passing_miss (is_in s d) i t) e

  with_name : is_in s d i ≡ true → run_of given start (named_entries s d (i + 1)) ≡ extended given (open_run room count) (i + 3) (length (name_at s i).text)
  unfolding run_of entry_of
  with_name t =
      ap (run_of given start) (named_hit s d i t) ∙ run_append given start (named_entries s d i) (entry_of s i ∷ [])
      ∙ ap (λ (r : Run). run_of given r (entry_of s i ∷ [])) (sym e)

  pub over_low : is_in s d i ≡ true → i + 3 ≤ given → open_run room count ≡ run_of given start (named_entries s d (i + 1))
  unfolding extended
  over_low t l = rw (with_name t, le-ltb given (i + 3) l)

  pub over_fitting : (long : ℕ) → is_in s d i ≡ true → long ≡ length (name_at s i).text → given < i + 3 → cost long ≤ room
      → open_run (room - cost long) (count + 1) ≡ run_of given start (named_entries s d (i + 1))
  unfolding extended fitted
  over_fitting long t q l f = rw (with_name t, ← q, lt-ltb given (i + 3) l, le-leb (cost long) room f)

  pub over_large : (long m : ℕ) → is_in s d i ≡ true → long ≡ length (name_at s i).text → given < i + 3 → room < cost long → i < m
      → ended_run room count ≡ run_of given start (named_entries s d m)
  unfolding extended fitted
  over_large long m t q l f h =
      let later = map (entry_of s) (drop (length (passing (i + 1) (is_in s d))) (passing m (is_in s d))) in
      let ended = ended_run room count in
      let one : run_of given start (named_entries s d (i + 1)) ≡ ended = rw (with_name t, ← q, lt-ltb given (i + 3) l, lt-leb (cost long) room f) in
      sym (ap (run_of given start) (passing_split (entry_of s) (is_in s d) (i + 1) m (omega arith)) ∙ run_append given start (named_entries s d (i + 1)) later
      ∙ ap (λ (r : Run). run_of given r later) one ∙ run_ended given ended later refl)

-- ---- the names of a directory, after "." and ".."
pub behind_dots : (s : Store) (d given : ℕ) (start run : Run) → run ≡ extended given (extended given start 1 1) 2 2
    → run_of given run (named_entries s d (names s)) ≡ run_of given start (entries s d)
unfolding run_of entries dot_entries
behind_dots s d given start run e =
    ap (λ (r : Run). run_of given r (named_entries s d (names s))) e ∙ sym (run_append given start (dot_entries s d) (named_entries s d (names s)))

pub run_open : (run : Run) → run.full ≡ false → open_run run.room run.count ≡ run
run_open run t = ap (λ (x : Bool). record { room = run.room; count = run.count; full = x }) (sym t)

-- ---- the longest run that fits
abbrev pub Fits : ℕ → ℕ → ℕ → List Entry → Run → Type 0
Fits given room k es run =
    (run.count ≡ k + length (fitting entry_fixed_cost room (entries_above given es)))
    × (run.full ≡ not (eqb (length (fitting entry_fixed_cost room (entries_above given es))) (length (entries_above given es))))

-- one entry more: of the run, of those above the cookie, and of those that fit
run_over : (given : ℕ) (run : Run) (e : Entry) (es : List Entry) → ltb given e.cookie ≡ false → run_of given run (e ∷ es) ≡ run_of given run es
unfolding run_of extended
run_over given run e es t = ap (λ (r : Run). run_of given r es) (rw t)

run_takes : (given room k : ℕ) (e : Entry) (es : List Entry) → ltb given e.cookie ≡ true → leb (cost (length e.name)) room ≡ true
    → run_of given (open_run room k) (e ∷ es) ≡ run_of given (open_run (room - cost (length e.name)) (k + 1)) es
unfolding run_of extended fitted
run_takes given room k e es t u = ap (λ (r : Run). run_of given r es) (rw (t, u))

run_ends : (given room k : ℕ) (e : Entry) (es : List Entry) → ltb given e.cookie ≡ true → leb (cost (length e.name)) room ≡ false
    → run_of given (open_run room k) (e ∷ es) ≡ ended_run room k
unfolding run_of extended fitted
run_ends given room k e es t u = ap (λ (r : Run). run_of given r es) (rw (t, u)) ∙ run_ended given (ended_run room k) es refl

above_over : (given : ℕ) (e : Entry) (es : List Entry) → ltb given e.cookie ≡ false → entries_above given (e ∷ es) ≡ entries_above given es
unfolding entries_above
above_over given e es t = rw t

above_takes : (given : ℕ) (e : Entry) (es : List Entry) → ltb given e.cookie ≡ true → entries_above given (e ∷ es) ≡ e ∷ entries_above given es
unfolding entries_above
above_takes given e es t = rw t

fit_takes : (room : ℕ) (e : Entry) (es : List Entry) → leb (cost (length e.name)) room ≡ true
    → fitting entry_fixed_cost room (e ∷ es) ≡ e ∷ fitting entry_fixed_cost (room - cost (length e.name)) es
unfolding fitting
fit_takes room e es u = rw u

fit_ends : (room : ℕ) (e : Entry) (es : List Entry) → leb (cost (length e.name)) room ≡ false → fitting entry_fixed_cost room (e ∷ es) ≡ []
unfolding fitting
fit_ends room e es u = rw u

nothing_above : (given room : ℕ) → (fitting entry_fixed_cost room (entries_above given []) ≡ []) × (entries_above given [] ≡ [])
unfolding entries_above fitting
nothing_above given room = (refl, refl)

run_none : (given : ℕ) (run : Run) → run_of given run [] ≡ run
unfolding run_of
run_none given run = refl

run_fits : (given room k : ℕ) (es : List Entry) → Fits given room k es (run_of given (open_run room k) es)
run_fits given room k [] =
    rw ((nothing_above given room).0, (nothing_above given room).1, run_none given (open_run room k)) (sym (add-zero k), refl)
run_fits given room k (e ∷ es) =
    let price = cost (length e.name) in
    let after = entries_above given es in
    by_bool (ltb given e.cookie)
    (λ t. by_bool (leb price room)
    (λ u. let p = run_fits given (room - price) (k + 1) es in
    rw (run_takes given room k e es t u, above_takes given e es t, fit_takes room e after u)
    (omega (arith, p.0), p.1 ∙ ap not (sym (eqb-suc-suc (length (fitting entry_fixed_cost (room - price) after)) (length after)))))
    (λ u. rw (run_ends given room k e es t u, above_takes given e es t, fit_ends room e after u)
    (sym (add-zero k), sym (ap not (eqb-zero-suc (length after))))))
    (λ t. rw (run_over given (open_run room k) e es t, above_over given e es t) (run_fits given room k es))

pub start_fits : (given room : ℕ) (es : List Entry) (run : Run) → run ≡ run_of given (open_run room 0) es → Fits given room 0 es run
start_fits given room es run e = rw e (run_fits given room 0 es)
