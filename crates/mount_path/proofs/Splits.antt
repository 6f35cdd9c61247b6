-- A path taken apart, component by component. Assumes nothing.
use Prim.Native.Nat.{ℕ, zero, suc, ◌+◌, ◌-◌, ◌≤◌, ◌<◌}
use mathlib.Core.Path.{◌≡◌, refl, sym, ap, ◌∙◌}
use mathlib.Core.List.{List, [], ◌∷◌, ◌++◌}
use native.Mathlib.Omega.{arith}
use lib.ListN.{length, get_or}
use borrow.Author.Tests.{eq-eqb, ne_eqb}
use Rattle.spec.specs.Bytes.{part}
use Rattle.std.specs.Prelude.{Option, Some, None, MatchOption}
use Rattle.std.specs.List.{AllWithin, HoldsAt}
use Rattle.laws.proofs.Bytes.{part_cons, part_snoc, part_length, get_d_part}
use Rattle.mount_spec.specs.Path.{slash, before, split, components}
use Rattle.mount_path.specs.Steps.{Component}

-- the bytes of the component from `from` have been seen up to `at`
pub record Seen (call : List ℕ) (from end at : ℕ) : Type 0 where
  pub low : from ≤ at
  pub high : at ≤ end
  pub so_far : components (part call from (end - from)) ≡ split (part call from (at - from)) (part call at (end - at))

module _ (call : List ℕ) (from end : ℕ) (inside : end ≤ length call) where
  pub seen_first : from ≤ end → Seen call from end from
  unfolding components part
  seen_first h =
      let z : from - from ≡ 0 = omega arith in
      record { low = omega arith; high = h; so_far = rw z refl }

  next_byte : (at : ℕ) → at < end → part call at (end - at) ≡ get_or call at 0 ∷ part call (at + 1) (end - (at + 1))
  next_byte at h =
      let n : end - at ≡ suc (end - (at + 1)) = omega arith in
      let m : suc at ≡ at + 1 = omega arith in
      rw n (rw (← m) (part_cons call at (end - suc at) (omega arith)))

  -- another byte than a slash
  pub seen_more : (at : ℕ) → Seen call from end at → at < end → (get_or call at 0 ≡ slash → ⊥) → Seen call from end (at + 1)
  unfolding split
  seen_more at w h d =
      let x = get_or call at 0 in
      let cur = part call from (at - from) in
      let rest = part call (at + 1) (end - (at + 1)) in
      let l = w.low in
      let k : at + 1 - from ≡ at - from + 1 = omega arith in
      let p : from + (at - from) ≡ at = omega arith in
      let snoc : cur ++ (x ∷ []) ≡ part call from (at + 1 - from) = rw k (rw (part_snoc call from (at - from) (omega arith), p)) in
      let step : split cur (x ∷ rest) ≡ split (cur ++ (x ∷ [])) rest = rw (ne_eqb x slash d) in
      record {
        low = omega arith;
        high = omega arith;
        so_far = w.so_far ∙ ap (split cur) (next_byte at h) ∙ step ∙ ap (λ (l : List ℕ). split l rest) snoc;
      }

  -- a slash
  pub seen_slash : (at : ℕ) → Seen call from end at → at < end → get_or call at 0 ≡ slash
      → components (part call from (end - from)) ≡ before (part call from (at - from)) (components (part call (at + 1) (end - (at + 1))))
  unfolding split components
  seen_slash at w h e =
      let x = get_or call at 0 in
      let cur = part call from (at - from) in
      let rest = part call (at + 1) (end - (at + 1)) in
      let step : split cur (x ∷ rest) ≡ before cur (split [] rest) = rw (eq-eqb x slash e) in
      w.so_far ∙ ap (split cur) (next_byte at h) ∙ step

  -- the end of the path
  pub seen_all : (at : ℕ) → Seen call from end at → at ≡ end
      → components (part call from (end - from)) ≡ before (part call from (at - from)) (components (part call (at + 1) (end - (at + 1))))
  unfolding split components part
  seen_all at w e =
      let z : end - at ≡ 0 = omega arith in
      let y : end - (at + 1) ≡ 0 = omega arith in
      w.so_far ∙ rw (z, y) refl

  -- n bytes that are no slashes
  seen_on : (n : ℕ) → from + n ≤ end → ((k : ℕ) → k < n → get_or call (from + k) 0 ≡ slash → ⊥) → Seen call from end (from + n)
  seen_on zero l f = let e : from + 0 ≡ from = omega arith in rw e (seen_first (omega arith))
  seen_on (suc n) l f =
      let e : from + suc n ≡ from + n + 1 = omega arith in
      rw e (seen_more (from + n) (seen_on n (omega arith) (λ k h. f k (omega arith))) (omega arith) (f n (omega arith)))

  module _ (xs : List ℕ) (h : from ≤ end) (e : xs ≡ part call from (end - from)) where
    byte_at : (k : ℕ) → from + k < end → get_or xs k 0 ≡ get_or call (from + k) 0
    byte_at k l = ap (λ (ys : List ℕ). get_or ys k 0) e ∙ get_d_part call from (end - from) k (omega arith)

    bytes : length xs ≡ end - from
    bytes = ap length e ∙ part_length call from (end - from) (omega arith)

    none_before : (n : ℕ) → from + n ≤ end → AllWithin (λ x. x ≡ slash → ⊥) xs 0 n → Seen call from end (from + n)
    none_before n l f = seen_on n l (λ k m d. f k 0 (omega arith) m (byte_at k (omega arith) ∙ d))

    -- the first slash is n bytes behind `from`
    ends_at_slash : (n : ℕ) → (n < length xs) × HoldsAt (λ x. x ≡ slash) xs n × AllWithin (λ x. x ≡ slash → ⊥) xs 0 n → Component call from end (from + n)
    ends_at_slash n f =
        let l : n < length xs = f.0 in
        let m : from + n < end = omega (arith, bytes) in
        let w = none_before n (omega arith) f.2 in
        record { low = omega arith; high = omega arith; splits = seen_slash (from + n) w m (sym (byte_at n m) ∙ f.1 0) }

    -- there is no slash
    ends_at_end : AllWithin (λ x. x ≡ slash → ⊥) xs 0 (length xs) → Component call from end end
    ends_at_end f =
        let m : from + (end - from) ≡ end = omega arith in
        let w = none_before (end - from) (omega arith) (rw bytes at f) in
        record { low = h; high = omega arith; splits = seen_all end (rw m at w) refl }

    -- what a search for the first slash tells
    pub ends_by : (r : Option ℕ) → MatchOption r (AllWithin (λ x. x ≡ slash → ⊥) xs 0 (length xs)) (λ n. (n < length xs) × HoldsAt (λ x. x ≡ slash) xs n × AllWithin (λ x. x ≡ slash → ⊥) xs 0 n)
        → MatchOption r (Component call from end end) (λ n. Component call from end (from + n))
    ends_by (Some n) f = ends_at_slash n f
    ends_by None f = ends_at_end f
