-- Lists of block numbers by their numbers. Assumes nothing.
use Prim.Native.Nat.{ℕ, zero, suc, ◌+◌, ◌<◌}
use mathlib.Core.Path.{◌≡◌, refl, sym, ap, ◌∙◌}
use mathlib.Core.List.{List, [], ◌∷◌, ◌++◌}
use native.Mathlib.Omega.{arith}
use native.Mathlib.Numerals.{add-one}
use lib.ListN.{length, get_or, set, take, length-map, get_or-map}
use lib.Seq.{take-suc, take-suc-set, take_all}
use Rattle.kinds.specs.BlockNumbers.{numbers_of}
use Rattle.kinds.specs.Layout.{blocks_offset}
use Rattle.kinds.specs.Numbers.{file_blocks}
use Rattle.kinds.specs.declared.numbers.BlockNumber.{BlockNumber}
use Rattle.spec.specs.Image.{Store, object_start, object_from, object_at}
use Rattle.laws.proofs.Records.{halves_count}

-- a block, by its number
abbrev pub block_of : ℕ → BlockNumber
block_of n = record { 0 = n }

pub numbers_length : (bs : List BlockNumber) → length (numbers_of bs) ≡ length bs
numbers_length bs = length-map bs (λ b. b.0)

pub numbers_at : (bs : List BlockNumber) (k : ℕ) → (get_or bs k (block_of 0)).0 ≡ get_or (numbers_of bs) k 0
numbers_at bs k = sym (get_or-map (λ (b : BlockNumber). b.0) bs k (block_of 0))

pub numbers_set : (bs : List BlockNumber) (k : ℕ) (b : BlockNumber) → numbers_of (set bs k b) ≡ set (numbers_of bs) k b.0
numbers_set [] k b = refl
numbers_set (x ∷ bs) zero b = refl
numbers_set (x ∷ bs) (suc k) b = ap (λ (ns : List ℕ). x.0 ∷ ns) (numbers_set bs k b)

-- a list that is filled from another, one number more
pub numbers_next : (bs : List BlockNumber) (ns : List ℕ) (k : ℕ) (b : BlockNumber) → k < length bs → k < length ns → b.0 ≡ get_or ns k 0
    → take k (numbers_of bs) ≡ take k ns → take (k + 1) (numbers_of (set bs k b)) ≡ take (k + 1) ns
numbers_next bs ns k b h l e q =
    rw (add-one, numbers_set bs k b)
    (take-suc-set (numbers_of bs) k b.0 (rw numbers_length h) ∙ ap (λ (xs : List ℕ). xs ++ (b.0 ∷ [])) q
    ∙ ap (λ (n : ℕ). take k ns ++ (n ∷ [])) e ∙ sym (take-suc ns k 0 l))

pub numbers_all : (bs : List BlockNumber) (ns : List ℕ) (k n : ℕ) → k ≡ n → length bs ≡ n → length ns ≡ n
    → take k (numbers_of bs) ≡ take k ns → numbers_of bs ≡ ns
numbers_all bs ns k n e h l q =
    sym (take_all k (numbers_of bs) (rw numbers_length (omega arith))) ∙ q ∙ take_all k ns (omega arith)

-- an object record has room for as many as a file may have
pub blocks_long : (s : Store) (o : ℕ) → length (object_at s o).blocks ≡ file_blocks
unfolding object_at object_from
blocks_long s o = halves_count s (object_start o + blocks_offset) file_blocks
