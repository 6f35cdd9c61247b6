-- Blocks of a list zeroed one after the other. Assumes nothing.
use Prim.Native.Nat.{ℕ, ◌+◌, ◌-◌, ◌≤◌, ◌<◌}
use mathlib.Core.Path.{◌≡◌, sym, ap, ◌∙◌}
use mathlib.Core.List.{List, [], ◌∷◌}
use native.Mathlib.Omega.{arith}
use lib.ListN.{length, get_or}
use Rattle.kinds.specs.Layout.{block_length}
use Rattle.spec.specs.Bytes.{part, overlay, zeros}
use Rattle.spec.specs.Edits.{clear_blocks}
use Rattle.spec.specs.Image.{Store, blocks, block_start}
use Rattle.laws.proofs.BlockLists.{InRange}
use Rattle.laws.proofs.BlockWrites.{clear_blocks_lem, clear_append}
use Rattle.laws.proofs.Bytes.{get_d_part, part_length, part_snoc}
use Rattle.laws.proofs.Kept.{Sound, RecordsKept}
use Rattle.laws.proofs.Shape.{SameShape}

module _ (s : Store) (numbers : List ℕ) (start end : ℕ) (h : Sound s) (few : end ≤ length numbers)
    (range : InRange (blocks s) (part numbers start (end - start))) where
  -- the number at a place between the two is a block of the store
  pub place_range : (k : ℕ) → start ≤ k → k < end → get_or numbers k 0 < blocks s
  place_range k a b =
      let e : start + (k - start) ≡ k = omega arith in
      rw e at (rw (get_d_part numbers start (end - start) (k - start) (omega arith)) at
      (range (k - start) (omega (arith, part_length numbers start (end - start) (omega arith)))))

  -- the blocks before place k zeroed
  abbrev pub cleared : ℕ → Store
  cleared k = clear_blocks s (part numbers start (k - start))

  pub cleared_kept : (k : ℕ) → start ≤ k → k ≤ end → RecordsKept s (cleared k)
  cleared_kept k a b =
      clear_blocks_lem s (part numbers start (k - start)) h (λ i l.
      let j : i < k - start = omega (arith, part_length numbers start (k - start) (omega arith)) in
      rw (get_d_part numbers start (k - start) i j) (place_range (start + i) (omega arith) (omega arith)))

  pub cleared_shape : (k : ℕ) (t : Store) → start ≤ k → k ≤ end → t ≡ cleared k → SameShape s t
  cleared_shape k t a b e = rw e (cleared_kept k a b).shape

  -- the next one lies in the store
  pub next_fits : (k : ℕ) (t : Store) → start ≤ k → k < end → t ≡ cleared k → block_start t (get_or numbers k 0) + block_length ≤ length t
  next_fits k t a b e =
      let w = cleared_shape k t a (omega arith) e in
      let r = place_range k a b in
      let q = h.shaped in
      omega arith

  -- and is zeroed
  pub cleared_next : (k : ℕ) (t u : Store) → start ≤ k → k < end → t ≡ cleared k → u ≡ overlay t (block_start t (get_or numbers k 0)) (zeros block_length)
      → u ≡ cleared (k + 1)
  unfolding clear_blocks
  cleared_next k t u a b p q =
      let e : start + (k - start) ≡ k = omega arith in
      let f : k + 1 - start ≡ k - start + 1 = omega arith in
      q ∙ ap (λ (z : Store). overlay z (block_start z (get_or numbers k 0)) (zeros block_length)) p
      ∙ sym (rw e at (clear_append s (part numbers start (k - start)) (get_or numbers (start + (k - start)) 0 ∷ [])))
      ∙ ap (clear_blocks s) (sym (rw e at (part_snoc numbers start (k - start) (omega arith)))) ∙ ap (λ (n : ℕ). clear_blocks s (part numbers start n)) (sym f)
