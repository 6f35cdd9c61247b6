-- Bytes of blocks written: whole blocks zeroed, a file's tail zeroed, and file data. No record changes. Assumes nothing.
use mathlib.Core.List.{List, [], ◌∷◌, ◌++◌}
use mathlib.Core.Path.{◌≡◌, refl}
use Prim.Native.Nat.{ℕ, suc, ◌+◌, ◌-◌, ◌/◌, ◌%◌, ◌≤◌, ◌<◌, min}
use native.Mathlib.Omega.{arith}
use native.Mathlib.Nat.{add-zero}
use lib.Dec.{eqb}
use lib.ListN.{length, length-replicate}
use borrow.Author.Tests.{eqb-false}
use Rattle.kinds.specs.Layout.{block_length}
use Rattle.spec.specs.Bytes.{overlay, zeros}
use Rattle.spec.specs.Edits.{clear_blocks, clear_tail, write_through, write_file}
use Rattle.spec.specs.Image.{Store, blocks, block_start, object_at}
use Rattle.spec.specs.Room.{size_of, byte_at}
use Rattle.laws.proofs.BlockLists.{InRange}
use Rattle.laws.proofs.Count.{by_bool}
use Rattle.laws.proofs.Kept.{Sound, RecordsKept, put_bytes, kept_refl, kept_trans}
use Rattle.laws.proofs.Range.{Below}
use Rattle.laws.proofs.RecordRange.{below_zeros, one_below}
use Rattle.laws.proofs.Valid.{LiveObject}

-- ---- whole blocks
pub clear_blocks_lem : (s : Store) (rs : List ℕ) → Sound s → InRange (blocks s) rs → RecordsKept s (clear_blocks s rs)
unfolding clear_blocks
clear_blocks_lem s [] h f = kept_refl s h
clear_blocks_lem s (r ∷ rs) h f =
    let b : r < blocks s = f 0 (omega arith) in
    let z = length-replicate {A = ℕ} block_length 0 in
    let w = h.shaped in
    let a = put_bytes s (block_start s r) (zeros block_length) h (omega arith) (omega arith) (below_zeros block_length) in
    let t = overlay s (block_start s r) (zeros block_length) in
    kept_trans s t (clear_blocks t rs) a
    (clear_blocks_lem t rs a.sound (λ k l. rw a.shape.blocks (f (suc k) (omega arith))))

-- blocks zeroed one after the other
pub clear_append : (s : Store) (xs ys : List ℕ) → clear_blocks s (xs ++ ys) ≡ clear_blocks (clear_blocks s xs) ys
unfolding clear_blocks
clear_append s [] ys = refl
clear_append s (r ∷ rs) ys = clear_append (overlay s (block_start s r) (zeros block_length)) rs ys

-- ---- the place of a file's byte: in the block that holds it
module _ (s : Store) (o : ℕ) (h : Sound s) (v : LiveObject (blocks s) (object_at s o)) where
  pub place_start : (i : ℕ) → block_start s 0 ≤ byte_at s o i
  unfolding byte_at
  place_start i = omega arith

  pub place_end : (i : ℕ) → i < size_of s o → byte_at s o i + (block_length - i % block_length) ≤ length s
  unfolding byte_at size_of
  place_end i l =
      let b = v.held (i / block_length) (omega arith) in
      let w = h.shaped in
      omega arith

  -- ---- a file's tail
  pub clear_tail_lem : (start end : ℕ) → start ≤ size_of s o → RecordsKept s (clear_tail s o start end)
  unfolding clear_tail byte_at size_of
  clear_tail_lem start end l =
      by_bool (eqb (start % block_length) 0)
      (λ e. rw e (kept_refl s h))
      (λ e. let d = eqb-false (start % block_length) 0 e in
      let b = v.held (start / block_length) (omega arith) in
      let w = h.shaped in
      let n = min (end - start) (block_length - start % block_length) in
      rw e (put_bytes s (byte_at s o start) (zeros n) h (omega arith) (rw length-replicate (omega arith)) (below_zeros n)))

-- ---- bytes at given places
write_through_lem : (place : ℕ → ℕ) (s : Store) (i : ℕ) (xs : List ℕ) → Sound s → Below 256 xs
    → ((j : ℕ) → j < length xs → (block_start s 0 ≤ place (i + j)) × (place (i + j) < length s)) → RecordsKept s (write_through place s i xs)
unfolding write_through
write_through_lem place s i [] h b f = kept_refl s h
write_through_lem place s i (x ∷ xs) h b f =
    let p : (block_start s 0 ≤ place i) × (place i < length s) = rw (add-zero i) at (f 0 (omega arith)) in
    let t = overlay s (place i) (x ∷ []) in
    let a = put_bytes s (place i) (x ∷ []) h p.0 (omega arith) (one_below 256 x (b 0)) in
    let e = a.shape in
    kept_trans s t (write_through place t (i + 1) xs) a
    (write_through_lem place t (i + 1) xs a.sound (λ k. b (suc k)) (λ j l.
    let q = f (suc j) (omega arith) in
    let m : i + 1 + j ≡ i + suc j = omega arith in
    rw m (omega arith)))

-- ---- FILE DATA
pub write_file_lem : (s : Store) (o offset : ℕ) (xs : List ℕ) → Sound s → LiveObject (blocks s) (object_at s o) → Below 256 xs
    → offset + length xs ≤ size_of s o → RecordsKept s (write_file s o offset xs)
unfolding write_file
write_file_lem s o offset xs h v b l =
    write_through_lem (byte_at s o) s offset xs h b (λ j k.
    let e = place_end s o h v (offset + j) (omega arith) in
    (place_start s o h v (offset + j), omega arith))
