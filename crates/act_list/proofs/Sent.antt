-- The run that is sent, from the run that was built. Assumes nothing.
use Prim.Native.Nat.{ℕ, suc, ◌-◌, ◌≤◌}
use mathlib.Core.Path.{◌≡◌, refl, sym, ◌∙◌}
use mathlib.Core.Bool.{true, false, not, ◌&&◌, and-false, not-not}
use mathlib.Core.List.{List, [], ◌∷◌}
use native.Mathlib.Omega.{arith}
use borrow.Author.Tests.{le-ltb}
use lib.Dec.{eqb, eqb-zero-suc, eqb-suc-zero}
use lib.ListN.{length, take}
use Rattle.kinds.specs.Numbers.{TOOSMALL, listing_cost, entry_fixed_cost}
use Rattle.spec.specs.Checked.{refused, passed}
use Rattle.spec.specs.Procedures.Listing.{entries_above, fitting, is_nothing, check_listing}
use Rattle.spec.specs.Results.{Entry}
use Rattle.laws.proofs.Listing.{fitting_front}
use Rattle.act_list.specs.Run.{open_run, run_of}
use Rattle.act_list.specs.declared.Run.{Run}
use Rattle.act_list.proofs.Runs.{start_fits}

nothing_test : (xs es : List Entry) → not (is_nothing es) && is_nothing xs ≡ not (eqb (length xs) (length es)) && eqb (length xs) 0
nothing_test [] [] = refl
nothing_test [] (e ∷ es) = rw (eqb-zero-suc (length es))
nothing_test (x ∷ xs) [] = rw (eqb-suc-zero (length xs))
nothing_test (x ∷ xs) (e ∷ es) = rw (eqb-suc-zero (length xs)) (sym (and-false (not (eqb (suc (length xs)) (suc (length es))))))

module _ (given limit : ℕ) (es : List Entry) (h : listing_cost ≤ limit) (run : Run) (is : run ≡ run_of given (open_run (limit - listing_cost) 0) es) where
  abbrev above : List Entry
  above = entries_above given es

  abbrev fit : List Entry
  fit = fitting entry_fixed_cost (limit - listing_cost) above

  counted : run.count ≡ length fit
  counted = omega (arith, (start_fits given (limit - listing_cost) es run is).0)

  ended : run.full ≡ not (eqb (length fit) (length above))
  ended = (start_fits given (limit - listing_cost) es run is).1

  test : not (is_nothing above) && is_nothing fit ≡ run.full && eqb run.count 0
  test = rw (ended, counted) (nothing_test fit above)

  pub listing_small : run.full && eqb run.count 0 ≡ true → refused TOOSMALL ≡ check_listing listing_cost entry_fixed_cost limit above
  unfolding check_listing
  listing_small t = rw (le-ltb limit listing_cost h, test ∙ t)

  pub listing_sent : run.full && eqb run.count 0 ≡ false
      → passed (take run.count above, not run.full) ≡ check_listing listing_cost entry_fixed_cost limit above
  unfolding check_listing
  listing_sent t =
      let p : take run.count above ≡ fit = rw counted (sym (fitting_front entry_fixed_cost (limit - listing_cost) above)) in
      let q : not run.full ≡ eqb (length fit) (length above) = rw ended (not-not (eqb (length fit) (length above))) in
      rw (le-ltb limit listing_cost h, test ∙ t, p, q)
