-- Blocks and tails that are zeroed: the bytes there are 0, and all others stay. Assumes nothing.
use mathlib.Core.Path.{◌≡◌, refl, ap, ◌∙◌}
use mathlib.Core.Logic.{◌≢◌, ⊎_elim, by_cases, ◌⊎◌}
use mathlib.Core.List.{List, [], ◌∷◌}
use Prim.Native.Nat.{ℕ, suc, ◌+◌, ◌-◌, ◌%◌, ◌≤◌, ◌<◌, min}
use native.Mathlib.Omega.{arith}
use native.Mathlib.Decide.{ℕ_discrete, dec_lt}
use lib.Dec.{eqb}
use lib.ListN.{length, get_or, length-replicate, get_or-replicate}
use borrow.Author.Tests.{eqb-false, eq-eqb, ne_eqb}
use Rattle.kinds.specs.Layout.{block_length}
use Rattle.spec.specs.Bytes.{overlay, zeros}
use Rattle.spec.specs.Count.{bit, times}
use Rattle.spec.specs.Edits.{clear_blocks, clear_tail}
use Rattle.spec.specs.Image.{Store, blocks, block_start}
use Rattle.spec.specs.Room.{byte_at}
use Rattle.laws.proofs.BlockLists.{InRange}
use Rattle.laws.proofs.Bytes.{lt_or_le}
use Rattle.laws.proofs.Count.{by_bool}
use Rattle.laws.proofs.Kept.{Sound, RecordsKept, put_bytes}
use Rattle.laws.proofs.RecordRange.{below_zeros}
use Rattle.laws_contents.proofs.Laid.{Outside, byte_apart, byte_within}

-- one block zeroed
one_block : (s : Store) (r : ℕ) → Sound s → r < blocks s → RecordsKept s (overlay s (block_start s r) (zeros block_length))
one_block s r h b =
    let z = length-replicate {A = ℕ} block_length 0 in
    let w = h.shaped in
    put_bytes s (block_start s r) (zeros block_length) h (omega arith) (omega arith) (below_zeros block_length)

one_block_other : (s : Store) (x r q : ℕ) → Sound s → x < blocks s → q < block_length → x ≢ r
    → get_or (overlay s (block_start s x) (zeros block_length)) (block_start s r + q) 0 ≡ get_or s (block_start s r + q) 0
one_block_other s x r q h b l d =
    let z = length-replicate {A = ℕ} block_length 0 in
    let w = h.shaped in
    byte_apart s (block_start s x) (zeros block_length) (omega arith) (block_start s r + q)
    (⊎_elim (λ (a : r < x). ◌⊎◌.inl (omega arith)) (λ (a : x ≤ r). ◌⊎◌.inr (omega arith)) (lt_or_le r x))

one_block_zero : (s : Store) (r q : ℕ) → Sound s → r < blocks s → q < block_length
    → get_or (overlay s (block_start s r) (zeros block_length)) (block_start s r + q) 0 ≡ 0
one_block_zero s r q h b l =
    let z = length-replicate {A = ℕ} block_length 0 in
    let w = h.shaped in
    byte_within s (block_start s r) (zeros block_length) (omega arith) (block_start s r + q) (omega arith, omega arith)
    ∙ get_or-replicate block_length (block_start s r + q - block_start s r) 0 0 (omega arith)

-- a block that is not in the list stays
pub clear_other : (s : Store) (rs : List ℕ) → Sound s → InRange (blocks s) rs → (r q : ℕ) → q < block_length → times r rs ≡ 0
    → get_or (clear_blocks s rs) (block_start s r + q) 0 ≡ get_or s (block_start s r + q) 0
unfolding clear_blocks times
clear_other s [] h f r q l e = refl
clear_other s (x ∷ rs) h f r q l e =
    let t = overlay s (block_start s x) (zeros block_length) in
    let b : x < blocks s = f 0 (omega arith) in
    let a = one_block s x h b in
    let d : x ≢ r = λ y. omega (arith, ap bit (eq-eqb x r y)) in
    (rw (a.shape.objects, a.shape.names) at
    (clear_other t rs a.sound (λ k i. rw a.shape.blocks (f (suc k) (omega arith))) r q l (omega arith)))
    ∙ one_block_other s x r q h b l d

-- a block in the list is zero
pub clear_zero : (s : Store) (rs : List ℕ) → Sound s → InRange (blocks s) rs → (r q : ℕ) → q < block_length → 0 < times r rs
    → get_or (clear_blocks s rs) (block_start s r + q) 0 ≡ 0
unfolding clear_blocks times
clear_zero s [] h f r q l p = absurd (omega arith)
clear_zero s (x ∷ rs) h f r q l p =
    let t = overlay s (block_start s x) (zeros block_length) in
    let b : x < blocks s = f 0 (omega arith) in
    let a = one_block s x h b in
    let g : InRange (blocks t) rs = λ k i. rw a.shape.blocks (f (suc k) (omega arith)) in
    by_cases (dec_lt 0 (times r rs))
    (λ y. rw (a.shape.objects, a.shape.names) at (clear_zero t rs a.sound g r q l y))
    (λ y. by_cases (ℕ_discrete x r)
    (λ e. (rw (a.shape.objects, a.shape.names) at (clear_other t rs a.sound g r q l (omega arith)))
    ∙ ap (λ (i : ℕ). get_or (overlay s (block_start s i) (zeros block_length)) (block_start s r + q) 0) e ∙ one_block_zero s r q h (rw (← e) b) l)
    (λ d. absurd (omega (arith, ap bit (ne_eqb x r d)))))

-- a tail that is zeroed lies in the block of its start, from there on: every byte before it or after that block stays
pub tail_other : (s : Store) (o start end q : ℕ) → (0 < start % block_length → byte_at s o start + (block_length - start % block_length) ≤ length s)
    → (0 < start % block_length → Outside (byte_at s o start) (block_length - start % block_length) q) → get_or (clear_tail s o start end) q 0 ≡ get_or s q 0
unfolding clear_tail
tail_other s o start end q f d =
    by_bool (eqb (start % block_length) 0)
    (λ e. rw e refl)
    (λ e. let i = eqb-false (start % block_length) 0 e in
    let p : 0 < start % block_length = omega arith in
    let n = min (end - start) (block_length - start % block_length) in
    let z = length-replicate {A = ℕ} n 0 in
    let w = f p in
    rw e (byte_apart s (byte_at s o start) (zeros n) (omega arith) q
    (⊎_elim (λ (y : q < byte_at s o start). ◌⊎◌.inl y) (λ (y : byte_at s o start + (block_length - start % block_length) ≤ q). ◌⊎◌.inr (omega arith)) (d p))))

-- every byte of the tail is zero
pub tail_zero : (s : Store) (o start end j : ℕ) → 0 < start % block_length → byte_at s o start + (block_length - start % block_length) ≤ length s
    → j < end - start → j < block_length - start % block_length → get_or (clear_tail s o start end) (byte_at s o start + j) 0 ≡ 0
unfolding clear_tail
tail_zero s o start end j p f a b =
    let n = min (end - start) (block_length - start % block_length) in
    let z = length-replicate {A = ℕ} n 0 in
    let at = byte_at s o start in
    rw (ne_eqb (start % block_length) 0 (λ y. omega arith))
    (byte_within s at (zeros n) (omega arith) (at + j) (omega arith, omega arith) ∙ get_or-replicate n (at + j - at) 0 0 (omega arith))
