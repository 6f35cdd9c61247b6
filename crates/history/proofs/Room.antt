-- Blocks: no block serves two places. Assumes nothing.
use mathlib.Core.Path.{◌≡◌, refl, sym, ap, ◌∙◌}
use mathlib.Core.Logic.{by_cases}
use mathlib.Core.List.{List}
use Prim.Native.Nat.{ℕ, ◌≤◌, ◌<◌}
use native.Mathlib.Decide.{ℕ_discrete, dec_lt}
use native.Mathlib.Omega.{arith}
use lib.ListN.{length, get_or}
use Rattle.spec.specs.Count.{sum, times}
use Rattle.laws.proofs.Count.{sum_at}
use Rattle.laws.proofs.Unique.{sum_two}
use Rattle.laws.proofs.Count.{times_at, times_two}
use Rattle.history.proofs.Lists.{All}

-- the blocks of each object, in the order of its bytes
abbrev pub Blocks : Type 0
Blocks = ℕ → List ℕ

-- how many places have block b
abbrev pub uses_of : ℕ → Blocks → ℕ → ℕ
uses_of P v b = sum P (λ i. times b (v i))

pub record Room (P R : ℕ) (v : Blocks) : Type 0 where
  pub past : (i : ℕ) → 0 < length (v i) → i < P
  pub fits : (i : ℕ) → All (λ b. b < R) (v i)
  pub alone : (b : ℕ) → uses_of P v b ≤ 1

module _ (P R : ℕ) (v : Blocks) (M : Room P R v) where
  -- no block serves two places
  pub one_place_lem : (i j k l : ℕ) → k < length (v i) → l < length (v j) → get_or (v i) k 0 ≡ get_or (v j) l 0 → (i ≡ j) × (k ≡ l)
  one_place_lem i j k l h g e =
      let b = get_or (v i) k 0 in
      let m = M.alone b in
      let f : ℕ → ℕ = λ n. times b (v n) in
      by_cases (ℕ_discrete i j)
      (λ p. (
        p,
        inside (v i) k l h (omega (arith, ap (λ (n : ℕ). length (v n)) p)) (ap (λ (n : ℕ). get_or (v n) l 0) p ∙ sym e)
            (omega (arith, sum_at P i f (M.past i (omega arith)))),
      ))
      (λ n. absurd (omega (
        arith,
        times_at b 0 (v i) k h refl,
        times_at b 0 (v j) l g (sym e),
        sum_two P i j f (M.past i (omega arith)) (M.past j (omega arith)) n,
      )))
    where
      inside : (xs : List ℕ) (k l : ℕ) → k < length xs → l < length xs → get_or xs l 0 ≡ get_or xs k 0 → times (get_or xs k 0) xs ≤ 1 → k ≡ l
      inside xs k l p q e m = by_cases (dec_lt k l)
          (λ x. absurd (omega (arith, times_two (get_or xs k 0) 0 xs k l x q refl e)))
          (λ x. by_cases (dec_lt l k)
          (λ y. absurd (omega (arith, times_two (get_or xs k 0) 0 xs l k y p e refl)))
          (λ y. omega arith))
