-- Runs of a file's bytes, and longer ones from them. Assumes nothing.
use Prim.Native.Nat.{ℕ, ◌+◌, ◌-◌, ◌*◌, ◌/◌, ◌%◌, ◌≤◌, ◌<◌, min}
use mathlib.Core.Path.{◌≡◌, ◌∙◌}
use native.Mathlib.Omega.{arith}
use lib.ListN.{get_or}
use Rattle.kinds.specs.Layout.{block_length}
use Rattle.kinds.specs.Numbers.{file_blocks}
use Rattle.spec.specs.Image.{Store, objects, object_at, block_start}
use Rattle.spec.specs.Room.{size_of, byte_at}
use Rattle.laws.proofs.Bytes.{part_add}
use Rattle.laws.proofs.FileData.{read_in_block, read_parts}
use Rattle.laws.proofs.GoodRecords.{GoodRecords}
use Rattle.results.specs.Writable.{Readable}
use Rattle.reply_file.specs.Together.{Together}
use Rattle.reply_file.proofs.Files.{run_in, byte_few}

-- bytes of one block
pub together_block : (s : Store) (o i n : ℕ) → GoodRecords s → o < objects s → i < size_of s o → i % block_length + n ≤ block_length → Together s o i n
together_block s o i n g l h e = record { inside = run_in s o i g l n h e; bytes = read_in_block s o i n e (run_in s o i g l n h e) }

-- two runs, where the second starts in the store after the first
pub together_more : (s : Store) (o i m n : ℕ) → Together s o i m → Together s o (i + m) n → byte_at s o (i + m) ≡ byte_at s o i + m → Together s o i (m + n)
together_more s o i m n p q e =
    record {
      inside = omega (arith, q.inside, e);
      bytes = read_parts s o i m n ∙ rw (p.bytes, q.bytes, e, part_add s (byte_at s o i) m n);
    }

-- where the first byte of a block of a file lies
block_first : (s : Store) (o j k : ℕ) → j ≡ block_length * k → byte_at s o j ≡ block_start s (get_or (object_at s o).blocks k 0)
unfolding byte_at
block_first s o j k e =
    let q : j / block_length ≡ k = omega arith in
    let r : j % block_length ≡ 0 = omega arith in
    rw (q, r) (omega arith)

block_rest : (s : Store) (o i : ℕ)
    → byte_at s o i + (block_length - i % block_length) ≡ block_start s (get_or (object_at s o).blocks (i / block_length) 0) + block_length
unfolding byte_at
block_rest s o i = omega arith

-- a run from byte i to the end of block k of a file, or to the last of the bytes that are left
pub record RunTo (s : Store) (o i left k run : ℕ) : Type 0 where
  pub some : 1 ≤ run
  pub end : i + run ≡ block_length * (k + 1)
  pub place : byte_at s o i + run ≡ block_start s (get_or (object_at s o).blocks k 0) + block_length
  pub together : Together s o i (min run left)

module _ (s : Store) (o i left : ℕ) (f : Readable s o i left) (asked : 1 ≤ left) where
  pub first_run : RunTo s o i left (i / block_length) (block_length - i % block_length)
  first_run =
      record {
        some = omega arith;
        end = omega arith;
        place = block_rest s o i;
        together = together_block s o i (min (block_length - i % block_length) left) f.good f.object (omega (arith, f.left)) (omega arith);
      }

  pub run_few : (k run : ℕ) → RunTo s o i left k run → run < left → k + 1 < file_blocks
  run_few k run h l =
      let b : i + run < size_of s o = omega (arith, f.left) in
      omega (arith, h.end, byte_few s o (i + run) f.good f.object b)

  pub next_run : (k run : ℕ) → RunTo s o i left k run → run < left → get_or (object_at s o).blocks (k + 1) 0 ≡ get_or (object_at s o).blocks k 0 + 1
      → RunTo s o i left (k + 1) (run + block_length)
  next_run k run h l n =
      let b : i + run < size_of s o = omega (arith, f.left) in
      let m = min block_length (left - run) in
      let e : min run left ≡ run = omega arith in
      let t : min (run + block_length) left ≡ run + m = omega arith in
      let z = block_first s o (i + run) (k + 1) h.end in
      record {
        some = omega arith;
        end = omega (arith, h.end);
        place = omega (arith, h.place, n);
        together = rw t (together_more s o i run m (rw e at h.together)
            (together_block s o (i + run) m f.good f.object b (omega (arith, h.end))) (z ∙ omega (arith, h.place, n)));
      }
