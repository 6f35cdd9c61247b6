-- The block numbers of a file of another size, number by number. Assumes nothing.
use Prim.Native.Nat.{ℕ, ◌+◌, ◌-◌, ◌≤◌, ◌<◌}
use mathlib.Core.Path.{◌≡◌, sym, ap, ap₂, ◌∙◌}
use mathlib.Core.List.{List, [], ◌∷◌, ◌++◌}
use native.Mathlib.Omega.{arith}
use native.Mathlib.Numerals.{add-one}
use lib.ListN.{length, take, get_or, set, replicate, length-append, length-take, length-replicate, replicate-append-replicate, get_or-append}
use lib.Seq.{take-suc, take_at, take-length, take-append-add, get_or-take, get_or-append-add}
use Rattle.kinds.specs.BlockNumbers.{numbers_of}
use Rattle.kinds.specs.Numbers.{file_blocks, unused_block}
use Rattle.kinds.specs.declared.numbers.BlockNumber.{BlockNumber}
use Rattle.spec.specs.Edits.{block_numbers}
use Rattle.store_records.proofs.Numbered.{block_of, numbers_set, numbers_at}
use Rattle.store_blocks.proofs.Blocks.{listed_more}

-- a block of one list put into another
pub block_put : (bs cs : List BlockNumber) (k j : ℕ) → numbers_of (set bs k (get_or cs j (block_of 0))) ≡ set (numbers_of bs) k (get_or (numbers_of cs) j 0)
block_put bs cs k j = numbers_set bs k (get_or cs j (block_of 0)) ∙ ap (λ (n : ℕ). set (numbers_of bs) k n) (numbers_at cs j)

-- the first n + m of n numbers with a number repeated after them
filled : (rs : List ℕ) (m n x : ℕ) → length rs ≡ n → take (n + m) (rs ++ replicate (m + n) x) ≡ rs ++ replicate m x
filled rs m n x l =
    ap (λ (i : ℕ). take (i + m) (rs ++ replicate (m + n) x)) (sym l)
    ∙ take-append-add rs (replicate (m + n) x) m
    ∙ ap (λ (xs : List ℕ). rs ++ take m xs) (sym (replicate-append-replicate m n x))
    ∙ ap (λ (xs : List ℕ). rs ++ xs) (take_at (replicate m x) (replicate n x) m (length-replicate m x))

-- at most as many numbers as a file may have, and the number of an unused block in the other places
numbers_exact : (rs : List ℕ) (n : ℕ) → length rs ≡ n → n ≤ file_blocks → block_numbers rs ≡ rs ++ replicate (file_blocks - n) unused_block
unfolding block_numbers
numbers_exact rs n l h =
    let e : file_blocks ≡ n + (file_blocks - n) = omega arith in
    let f : file_blocks ≡ file_blocks - n + n = omega arith in
    ap₂ (λ (i j : ℕ). take i (rs ++ replicate j unused_block)) e f ∙ filled rs (file_blocks - n) n unused_block l

-- the first of its own numbers, then of the added ones
abbrev pub resized_list : List ℕ → List ℕ → ℕ → ℕ → List ℕ
resized_list own added before after = take after (take before own) ++ take (after - before) added

-- the first k of them, then the number of an unused block
abbrev pub numbers_to : List ℕ → List ℕ → ℕ → ℕ → ℕ → List ℕ
numbers_to own added before after k = take k (resized_list own added before after) ++ replicate (file_blocks - k) unused_block

module _ (own added : List ℕ) (before after : ℕ) (a : before ≤ file_blocks) (b : after ≤ file_blocks) (p : length own ≡ file_blocks)
    (q : length added ≡ file_blocks) where
  resized_length : length (resized_list own added before after) ≡ after
  resized_length = simp (length-append, length-take) (omega arith)

  own_number : (k : ℕ) → k < after → k < before → get_or (resized_list own added before after) k 0 ≡ get_or own k 0
  own_number k h l =
      get_or-append (take after (take before own)) (take (after - before) added) 0 k (simp length-take (omega arith))
      ∙ get_or-take after (take before own) k 0 h ∙ get_or-take before own k 0 l

  added_number : (k : ℕ) → k < after → before ≤ k → get_or (resized_list own added before after) k 0 ≡ get_or added (k - before) 0
  added_number k h l =
      let front : length (take after (take before own)) ≡ before = simp length-take (omega arith) in
      let e : k ≡ length (take after (take before own)) + (k - before) = omega arith in
      ap (λ (i : ℕ). get_or (resized_list own added before after) i 0) e
      ∙ get_or-append-add (take after (take before own)) (take (after - before) added) (k - before) 0
      ∙ get_or-take (after - before) added (k - before) 0 (omega arith)

  -- one number more
  numbers_next : (k x : ℕ) (xs : List ℕ) → k < after → xs ≡ numbers_to own added before after k → get_or (resized_list own added before after) k 0 ≡ x
      → set xs k x ≡ numbers_to own added before after (k + 1)
  numbers_next k x xs h e f =
      let rs = resized_list own added before after in
      let n = resized_length in
      let m : k ≡ length (take k rs) = simp length-take (omega arith) in
      ap (λ (z : List ℕ). set z k x) e ∙ listed_more (take k rs) k x m (omega arith)
      ∙ ap (λ (z : List ℕ). z ++ replicate (file_blocks - (k + 1)) unused_block)
      (ap (λ (y : ℕ). take k rs ++ (y ∷ [])) (sym f) ∙ sym (take-suc rs k 0 (omega arith)) ∙ ap (λ (i : ℕ). take i rs) (sym (add-one k)))

  pub own_next : (k : ℕ) (xs : List ℕ) → k < after → k < before → xs ≡ numbers_to own added before after k
      → set xs k (get_or own k 0) ≡ numbers_to own added before after (k + 1)
  own_next k xs h l e = numbers_next k (get_or own k 0) xs h e (own_number k h l)

  pub added_next : (k : ℕ) (xs : List ℕ) → k < after → before ≤ k → xs ≡ numbers_to own added before after k
      → set xs k (get_or added (k - before) 0) ≡ numbers_to own added before after (k + 1)
  added_next k xs h l e = numbers_next k (get_or added (k - before) 0) xs h e (added_number k h l)

  pub numbers_all : numbers_to own added before after after ≡ block_numbers (resized_list own added before after)
  numbers_all =
      let rs = resized_list own added before after in
      ap (λ (k : ℕ). take k rs ++ replicate (file_blocks - after) unused_block) (sym resized_length)
      ∙ ap (λ (xs : List ℕ). xs ++ replicate (file_blocks - after) unused_block) (take-length rs)
      ∙ sym (numbers_exact rs after resized_length b)
