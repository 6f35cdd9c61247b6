-- Bytes of a call written into a file, one run after the other. Assumes nothing.
use Prim.Native.Nat.{ℕ, ◌+◌, ◌-◌, ◌%◌, ◌≤◌, ◌<◌}
use mathlib.Core.Path.{◌≡◌, sym, ap, ◌∙◌}
use mathlib.Core.List.{List}
use native.Mathlib.Omega.{arith}
use lib.Dec.{lit<}
use lib.ListN.{length}
use Rattle.kinds.specs.Layout.{block_length}
use Rattle.kinds.specs.Numbers.{most_file_bytes}
use Rattle.spec.specs.Bytes.{part, overlay}
use Rattle.spec.specs.Edits.{write_file}
use Rattle.spec.specs.Image.{Store, objects, blocks, object_at}
use Rattle.spec.specs.Room.{size_of, byte_at}
use Rattle.laws.proofs.BlockWrites.{place_end, write_file_lem}
use Rattle.laws.proofs.Bytes.{part_add, part_length}
use Rattle.laws.proofs.FileData.{write_in_block, write_parts}
use Rattle.laws.proofs.GoodRecords.{GoodRecords, live_at}
use Rattle.laws.proofs.Kept.{RecordsKept}
use Rattle.laws.proofs.Range.{Below}
use Rattle.laws.proofs.RecordRange.{below_part}
use Rattle.laws.proofs.Shape.{SameShape}
use Rattle.laws.proofs.Structure.{kept_structure, byte_at_same}
use Rattle.laws.proofs.Valid.{Live, LiveObject, live_size}

-- the n bytes of the call from `start` are written at an offset of object o's file, all within its size
pub record Writing (s : Store) (o offset : ℕ) (call : List ℕ) (start n : ℕ) : Type 0 where
  pub good : GoodRecords s
  pub below : o < objects s
  pub live : Live s o
  pub bytes : Below 256 call
  pub fits : offset + n ≤ size_of s o
  pub long : start + n ≤ length call

module _ {s : Store} {o offset : ℕ} {call : List ℕ} {start n : ℕ} (w : Writing s o offset call start n) where
  record_live : LiveObject (blocks s) (object_at s o)
  record_live = live_at s w.good o w.below w.live

  pub offset_low : offset + n ≤ most_file_bytes
  unfolding size_of
  offset_low = omega (arith, live_size (blocks s) (object_at s o) record_live)

  front_length : (k : ℕ) → k ≤ n → length (part call start k) ≡ k
  front_length k h = part_length call start k (omega arith)

  -- the first k bytes written
  written_kept : (k : ℕ) → k ≤ n → RecordsKept s (write_file s o offset (part call start k))
  written_kept k h =
      write_file_lem s o offset (part call start k) w.good.sound record_live (below_part 256 call start k (lit< tt) w.bytes)
      (rw (front_length k h) (omega arith))

  pub written_shape : (k : ℕ) (t : Store) → k ≤ n → t ≡ write_file s o offset (part call start k) → SameShape s t
  written_shape k t h e = rw e (written_kept k h).shape

  -- the next byte's block lies in the store
  pub next_place : (k : ℕ) (t : Store) → k < n → t ≡ write_file s o offset (part call start k)
      → byte_at t o (offset + k) + (block_length - (offset + k) % block_length) ≤ length t
  next_place k t h e =
      let a : RecordsKept s t = rw e (written_kept k (omega arith)) in
      let q = byte_at_same s t (kept_structure s t a) o w.below (offset + k) in
      omega (arith, a.shape.long, place_end s o w.good.sound record_live (offset + k) (omega arith))

  -- m bytes more, within one block
  pub written_more : (k m : ℕ) (t u : Store) (place : ℕ) → k < n → k + m ≤ n → (offset + k) % block_length + m ≤ block_length
      → t ≡ write_file s o offset (part call start k)
      → place ≡ byte_at t o (offset + k) → u ≡ overlay t place (part call (start + k) m) → u ≡ write_file s o offset (part call start (k + m))
  written_more k m t u place h i j e p q =
      let xs = part call start k in
      let ys = part call (start + k) m in
      let x = front_length k (omega arith) in
      let y = part_length call (start + k) m (omega arith) in
      let z = next_place k t h e in
      q ∙ ap (λ (a : ℕ). overlay t a ys) p ∙ sym (write_in_block t o (offset + k) ys (omega arith) (omega arith))
      ∙ ap (λ (a : Store). write_file a o (offset + k) ys) e ∙ ap (λ (a : ℕ). write_file (write_file s o offset xs) o (offset + a) ys) (sym x)
      ∙ sym (write_parts s o offset xs ys w.good.sound w.below record_live (below_part 256 call start k (lit< tt) w.bytes) (omega arith))
      ∙ ap (write_file s o offset) (sym (part_add call start k m))
