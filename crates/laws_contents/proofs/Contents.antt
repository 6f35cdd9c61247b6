-- A file's contents: their length, each byte, and what READ shows of them. Assumes nothing.
use mathlib.Core.Path.{◌≡◌, sym, ap, ◌∙◌}
use mathlib.Core.Logic.{⊎_elim}
use Prim.Native.Nat.{ℕ, zero, suc, ◌+◌, ◌≤◌, ◌<◌}
use native.Mathlib.Omega.{arith}
use native.Mathlib.Nat.{zero-add, add-zero}
use lib.Dec.{leb}
use lib.ListN.{length, get_or}
use lib.Seq.{ext_get_or}
use Rattle.spec.specs.Bytes.{part}
use Rattle.spec.specs.Edits.{read_through, read_file}
use Rattle.spec.specs.Image.{Store}
use Rattle.spec.specs.Handles.{attributes}
use Rattle.spec.specs.Procedures.Data.{read_length, read_result}
use Rattle.spec.specs.Results.{got_bytes}
use Rattle.spec.specs.Room.{size_of, byte_at}
use Rattle.laws.proofs.Bytes.{lt_or_le, get_d_part, part_length}
use Rattle.laws.proofs.FileBytes.{read_file_length, read_file_none}
use Rattle.laws_contents.specs.Contents.{contents}

-- as many bytes as the file's size says
pub contents_length : (s : Store) (o : ℕ) → length (contents s o) ≡ size_of s o
unfolding contents
contents_length s o = read_file_length s o 0 (size_of s o)

through_byte : (place : ℕ → ℕ) (s : Store) (i n k : ℕ) → k < n → get_or (read_through place s i n) k 0 ≡ get_or s (place (i + k)) 0
unfolding read_through
through_byte place s i zero k h = absurd (omega arith)
through_byte place s i (suc n) zero h = rw (add-zero i)
through_byte place s i (suc n) (suc k) h =
    let e : i + 1 + k ≡ i + suc k = omega arith in
    through_byte place s (i + 1) n k (omega arith) ∙ ap (λ (j : ℕ). get_or s (place j) 0) e

-- byte k of the n bytes read from an offset
pub read_byte : (s : Store) (o offset n k : ℕ) → k < n → get_or (read_file s o offset n) k 0 ≡ get_or s (byte_at s o (offset + k)) 0
unfolding read_file
read_byte s o offset n k h = through_byte (byte_at s o) s offset n k h

-- byte k of the contents is the store's byte at the place of byte k
pub contents_byte : (s : Store) (o k : ℕ) → k < size_of s o → get_or (contents s o) k 0 ≡ get_or s (byte_at s o k) 0
unfolding contents
contents_byte s o k h = read_byte s o 0 (size_of s o) k h ∙ ap (λ (j : ℕ). get_or s (byte_at s o j) 0) (zero-add k)

-- bytes read within the file are that part of the contents
pub read_part : (s : Store) (o offset n : ℕ) → offset + n ≤ size_of s o → read_file s o offset n ≡ part (contents s o) offset n
read_part s o offset n h =
    let a = read_file_length s o offset n in
    let b : length (part (contents s o) offset n) ≡ n = part_length (contents s o) offset n (rw contents_length h) in
    ext_get_or 0 (read_file s o offset n) (part (contents s o) offset n) (a ∙ sym b) (λ k l.
    let j : k < n = omega arith in
    read_byte s o offset n k j ∙ sym (get_d_part (contents s o) offset n k j ∙ contents_byte s o (offset + k) (omega arith)))

-- what READ shows is a part of the contents, wherever it starts
pub shown_part : (s : Store) (o offset count : ℕ)
    → read_file s o offset (read_length s o offset count) ≡ part (contents s o) offset (read_length s o offset count)
unfolding read_length part
shown_part s o offset count =
    let n = read_length s o offset count in
    ⊎_elim
    (λ (l : size_of s o < offset). let e : n ≡ 0 = omega arith in rw e (read_file_none s o offset))
    (λ (l : offset ≤ size_of s o). read_part s o offset n (omega arith))
    (lt_or_le (size_of s o) offset)

-- two files of one size with the same bytes at their places have the same contents
pub contents_same : (s t : Store) (o p : ℕ) → size_of t p ≡ size_of s o
    → ((k : ℕ) → k < size_of s o → get_or t (byte_at t p k) 0 ≡ get_or s (byte_at s o k) 0) → contents t p ≡ contents s o
contents_same s t o p e f =
    ext_get_or 0 (contents t p) (contents s o) (contents_length t p ∙ e ∙ sym (contents_length s o)) (λ k l.
    let j : k < size_of s o = omega (arith, contents_length t p) in
    contents_byte t p k (omega arith) ∙ f k j ∙ sym (contents_byte s o k j))

-- what READ gives of a file is its attributes and a part of its contents: nothing else of the store shows
pub read_shows : (s : Store) (o offset count : ℕ) → read_result s o offset count
    ≡ got_bytes (attributes s o) (leb (length (contents s o)) (offset + read_length s o offset count)) (part (contents s o) offset (read_length s o offset count))
unfolding read_result
read_shows s o offset count = rw (contents_length s o, shown_part s o offset count)
