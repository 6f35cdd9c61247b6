-- The lowest row that passes a test, as a search of the rows finds it. Assumes nothing.
use Rattle.std.proofs.Common.{◌≡◌, ℕ, zero, suc, ◌≤◌, ◌<◌, Bool, true, false, refl, sym, ap, ◌∙◌, arith, add-one}
use Rattle.std.specs.Prelude.{Option, Some, None, IsSomeAnd, MatchOption}
use Rattle.std.proofs.Math.Option.{none, some}
use Rattle.kinds.specs.declared.mount.RowNumber.{RowNumber}
use Rattle.spec.specs.Count.{passing, lowest}
use Rattle.laws.proofs.Count.{lowest_more, lowest_hit}
use Rattle.mount_edit.specs.Edits.{found_row}

module _ (p : ℕ → Bool) where
  lowest_zero : lowest 0 p ≡ none
  unfolding lowest passing
  lowest_zero = refl

  none_lowest : (n : ℕ) → ((k : ℕ) → k < n → p k ≡ false) → lowest n p ≡ none
  none_lowest zero f = lowest_zero
  none_lowest (suc n) f = rw (← add-one n) (lowest_more p n (none_lowest n (λ k h. f k (omega arith))) (f n (omega arith)))

  pub found_lowest : (n : ℕ) (i : Option ℕ) (r : Option RowNumber)
      → MatchOption i ((k : ℕ) → 0 ≤ k → k < n → p k ≡ false) (λ i. (0 ≤ i) × (i < n) × (p i ≡ true) × ((k : ℕ) → 0 ≤ k → k < i → p k ≡ false))
      → MatchOption i (r ≡ None) (λ i. IsSomeAnd r (λ o. o.0 ≡ i)) → found_row r ≡ lowest n p
  found_lowest n None r f e = rw e (sym (none_lowest n (λ k h. f k (omega arith) h)))
  found_lowest n (Some i) (Some o) f e = ap some e ∙ sym (lowest_hit p i n (none_lowest i (λ k h. f.3 k (omega arith) h)) f.2 f.1)
  found_lowest n (Some i) None f e = elim e [ ]
