-- The replies of READDIR can be written from the store that they are made from. Assumes nothing.
use Prim.Native.Nat.{ℕ, ◌+◌, ◌-◌, ◌≤◌, ◌<◌, min}
use mathlib.Core.Path.{◌≡◌, sym, ap, ◌∙◌}
use mathlib.Core.Bool.{Bool, ◌&&◌, not}
use mathlib.Core.List.{List}
use native.Mathlib.Omega.{arith}
use borrow.Author.Tests.{ltb-false}
use lib.Dec.{eqb, ltb}
use lib.ListN.{length, take}
use Rattle.std.specs.Prelude.{Result, Ok}
use Rattle.kinds.specs.declared.numbers.Status.{Status}
use Rattle.kinds.specs.Numbers.{BAD_COOKIE, TOOSMALL, most_transfer_bytes, listing_cost, entry_fixed_cost}
use Rattle.spec.specs.Checked.{passed}
use Rattle.spec.specs.Image.{Store, objects}
use Rattle.spec.specs.Procedures.Listing.{entries, entries_above, fitting, is_nothing, check_listing, check_readdir_in}
use Rattle.spec.specs.Replies.{entries_bytes}
use Rattle.spec.specs.Results.{Entry}
use Rattle.laws.proofs.GoodRecords.{GoodRecords}
use Rattle.laws.proofs.Listing.{fitting_bytes}
use Rattle.laws.proofs.Passed.{refuse_passed}
use Rattle.results.specs.Writable.{Listable}
use Rattle.act_list.specs.Run.{listing_of}

-- "the longest run within min(count, 4096) is sent"
run_few : (limit : ℕ) (es run : List Entry) (all : Bool) → check_listing listing_cost entry_fixed_cost limit es ≡ passed (run, all)
    → listing_cost + length (entries_bytes run) ≤ limit
unfolding check_listing
run_few limit es run all e =
    let fit = fitting entry_fixed_cost (limit - listing_cost) es in
    refuse_passed (ltb limit listing_cost) TOOSMALL _ (run, all) e (λ t e₁.
    refuse_passed (not (is_nothing es) && is_nothing fit) TOOSMALL _ (run, all) e₁ (λ u e₂.
    let w : ◌≡◌ {A = List Entry × Bool} (fit, eqb (length fit) (length es)) (run, all) = cc in
    let k : length (entries_bytes run) ≤ limit - listing_cost = rw (ap (λ (v : List Entry × Bool). v.0) w) at (fitting_bytes (limit - listing_cost) es) in
    omega (arith, ltb-false limit listing_cost t)))

pub listable : (s : Store) (d cookie verifier count n : ℕ) (all : Bool) (r : Result (ℕ × Bool) Status) → GoodRecords s → d < objects s → r ≡ Ok (n, all)
    → listing_of (entries_above cookie (entries s d)) r ≡ check_readdir_in s d cookie verifier count → Listable s d cookie n
unfolding check_readdir_in
listable s d cookie verifier count n all r g l p e =
    let es = entries_above cookie (entries s d) in
    refuse_passed (not (eqb verifier 0)) BAD_COOKIE _ (take n es, all) (sym e ∙ ap (listing_of es) p) (λ t f.
    let k = run_few (min count most_transfer_bytes) es (take n es) all f in
    record { good = g; directory = l; few = omega arith })
