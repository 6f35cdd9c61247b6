-- The list of the lowest free blocks, block by block. Assumes nothing.
use mathlib.Core.Path.{◌≡◌, refl, sym, ap, ◌∙◌}
use mathlib.Core.Logic.{◌≢◌, by_cases}
use mathlib.Core.Bool.{Bool, true, false, not}
use mathlib.Core.List.{List, [], ◌∷◌, ◌++◌}
use Prim.Native.Nat.{ℕ, suc, ◌+◌, ◌-◌, ◌≤◌, ◌<◌, zero-le}
use native.Mathlib.Decide.{ℕ_discrete}
use native.Mathlib.Omega.{arith}
use lib.Dec.{eqb}
use lib.ListN.{length, take, set, replicate, length-append}
use lib.Seq.{set_at, append_snoc, take_all}
use borrow.Author.Tests.{eq-eqb, ne_eqb}
use Rattle.kinds.specs.Numbers.{file_blocks, unused_block}
use Rattle.spec.specs.Count.{bit, count, passing}
use Rattle.laws.proofs.Count.{count_more, passing_hit, passing_miss, passing_length, passing_front}
use Rattle.store_blocks.specs.Blocks.{block_list, group}

-- a byte of the map, tested
pub free_byte : (t : Bool) (m : ℕ) → m ≡ bit (not t) → eqb m 0 ≡ t
free_byte true m e = eq-eqb m 0 e
free_byte false m e = ne_eqb m 0 (λ z. absurd (omega arith))

-- one more byte of the map, added to those before it: the used and the free blocks are all
pub used_more : (p : ℕ → Bool) (i k m n : ℕ) → k + count i p ≡ n → m ≡ bit (not (p i)) → k + m + count (i + 1) p ≡ n + 1
used_more p i k m n e q =
    let more = count_more p i (count i p) (bit (p i)) (p i) refl refl refl in
    omega (arith, q, more, both (p i))
  where
    both : (t : Bool) → bit (not t) + bit t ≡ 1
    both true = refl
    both false = refl

-- of a group of blocks all are used where as many are free below their end as below their start
pub all_used : (u a b : ℕ) → u + a ≡ group + b → eqb u group ≡ eqb a b
all_used u a b e =
    by_cases (ℕ_discrete u group)
    (λ q. eq-eqb u group q ∙ sym (eq-eqb a b (omega arith)))
    (λ d. ne_eqb u group d ∙ sym (ne_eqb a b (λ q. d (omega arith))))

-- where as many pass below n as below i, they are the same
pub passing_same : (p : ℕ → Bool) (i n : ℕ) → i ≤ n → count n p ≡ count i p → passing n p ≡ passing i p
passing_same p i n l e =
    sym (take_all (length (passing i p)) (passing n p) (omega (arith, passing_length p n, passing_length p i))) ∙ passing_front p i n l

pub mark_small : (t : Bool) (m : ℕ) → m ≡ bit (not t) → m ≤ 1
mark_small true m e = omega (arith, e)
mark_small false m e = omega (arith, e)

-- one more block in the list
pub listed_more : (xs : List ℕ) (k x : ℕ) → k ≡ length xs → k < file_blocks
    → set (xs ++ replicate (file_blocks - k) unused_block) k x ≡ xs ++ (x ∷ []) ++ replicate (file_blocks - (k + 1)) unused_block
listed_more xs k x e h =
    let q : file_blocks - k ≡ suc (file_blocks - (k + 1)) = omega arith in
    let rest = replicate (file_blocks - (k + 1)) unused_block in
    rw q (set_at xs unused_block rest x k (sym e) ∙ sym (append_snoc xs x rest))

-- the list has the k numbers below i that pass, not more than are wanted, and the number of an unused block in its other places
pub record Listed (p : ℕ → Bool) (wanted i k : ℕ) (list : List ℕ) : Type 0 where
  pub few : k ≤ wanted
  pub count : k ≡ length (passing i p)
  pub all : list ≡ passing i p ++ replicate (file_blocks - k) unused_block

pub listed_none : (p : ℕ → Bool) (wanted : ℕ) → Listed p wanted 0 0 (replicate file_blocks unused_block)
unfolding passing
listed_none p wanted = record { few = zero-le; count = refl; all = refl }

module _ (p : ℕ → Bool) (wanted i k : ℕ) (list : List ℕ) (h : Listed p wanted i k list) where
  -- i passes, and is listed
  pub listed_hit : (k' : ℕ) (list' : List ℕ) → wanted ≤ file_blocks → k ≢ wanted → p i ≡ true → list' ≡ set list k i → k' ≡ k + 1
      → Listed p wanted (i + 1) k' list'
  listed_hit k' list' few d t e q =
      record {
        few = omega arith;
        count = rw (passing_hit p i t) (simp length-append (omega arith));
        all =
            rw (passing_hit p i t)
            (e ∙ ap (λ (l : List ℕ). set l k i) h.all ∙ listed_more (passing i p) k i h.count (omega arith)
            ∙ ap (λ (m : ℕ). passing i p ++ (i ∷ []) ++ replicate (file_blocks - m) unused_block) (sym q));
      }

  pub listed_miss : (k' : ℕ) (list' : List ℕ) → p i ≡ false → list' ≡ list → k' ≡ k → Listed p wanted (i + 1) k' list'
  listed_miss k' list' t e q =
      rw (e, q) (record { few = h.few; count = rw (passing_miss p i t) h.count; all = rw (passing_miss p i t) h.all })

  -- none from i up to n passes
  pub listed_skip : (n : ℕ) → passing n p ≡ passing i p → Listed p wanted n k list
  listed_skip n e = record { few = h.few; count = rw e h.count; all = rw e h.all }

  listed_by : (n : ℕ) → take wanted (passing n p) ≡ passing i p → list ≡ block_list wanted (passing n p)
  unfolding block_list
  listed_by n r = rw r (h.all ∙ ap (λ (m : ℕ). passing i p ++ replicate (file_blocks - m) unused_block) h.count)

  -- as many as are wanted are listed
  pub listed_wanted : (n : ℕ) → i ≤ n → k ≡ wanted → list ≡ block_list wanted (passing n p)
  listed_wanted n l q = listed_by n (ap (λ (m : ℕ). take m (passing n p)) (sym q ∙ h.count) ∙ passing_front p i n l)

  -- all that pass are listed
  pub listed_all : (n : ℕ) → i ≡ n → list ≡ block_list wanted (passing n p)
  listed_all n q =
      let m : length (passing n p) ≤ wanted = rw (← q) (omega arith) in
      listed_by n (take_all wanted (passing n p) m ∙ ap (λ (j : ℕ). passing j p) (sym q))
