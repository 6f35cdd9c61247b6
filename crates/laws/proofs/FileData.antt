-- File data that is read and written: in parts, and within one block as one part of the image. Assumes nothing.
use mathlib.Core.Path.{◌≡◌, refl, sym, ap, ap₂, ◌∙◌, fun_ext}
use mathlib.Core.List.{List, [], ◌∷◌, ◌++◌}
use Prim.Native.Nat.{ℕ, zero, suc, ◌+◌, ◌/◌, ◌%◌, ◌≤◌, ◌<◌}
use native.Mathlib.Omega.{arith}
use native.Mathlib.Nat.{add-zero, zero-add}
use lib.ListN.{length, get_or}
use Rattle.kinds.specs.Layout.{block_length}
use Rattle.spec.specs.Bytes.{part, overlay}
use Rattle.spec.specs.Edits.{write_through, read_through, write_file, read_file}
use Rattle.spec.specs.Image.{Store, objects, blocks, object_at}
use Rattle.spec.specs.Room.{size_of, byte_at}
use Rattle.laws.proofs.Bytes.{part_cons, overlay_length, overlay_join, overlay_none}
use Rattle.laws.proofs.BlockWrites.{write_file_lem}
use Rattle.laws.proofs.Kept.{Sound}
use Rattle.laws.proofs.Range.{Below}
use Rattle.laws.proofs.Structure.{kept_structure, byte_at_same}
use Rattle.laws.proofs.Valid.{LiveObject}

-- bytes of a file within one block lie one after the other
pub byte_at_next : (s : Store) (o i j : ℕ) → i % block_length + j < block_length → byte_at s o (i + j) ≡ byte_at s o i + j
unfolding byte_at
byte_at_next s o i j h =
    let e : (i + j) / block_length ≡ i / block_length = omega arith in
    let f : (i + j) % block_length ≡ i % block_length + j = omega arith in
    rw (e, f) (omega arith)

-- ---- at places that lie one after the other
read_run : (place : ℕ → ℕ) (s : Store) (i p n : ℕ) → ((j : ℕ) → j < n → place (i + j) ≡ p + j) → p + n ≤ length s → read_through place s i n ≡ part s p n
unfolding read_through part
read_run place s i p zero f h = refl
read_run place s i p (suc n) f h =
    let q : place i ≡ p = ap place (sym (add-zero i)) ∙ f 0 (omega arith) ∙ add-zero p in
    ap₂ (λ (x : ℕ) (l : List ℕ). x ∷ l) (ap (λ (k : ℕ). get_or s k 0) q)
    (read_run place s (i + 1) (suc p) n (λ j l. let e : i + 1 + j ≡ i + suc j = omega arith in rw e (f (suc j) (omega arith) ∙ omega arith)) (omega arith))
    ∙ sym (part_cons s p n (omega arith))

write_run : (place : ℕ → ℕ) (s : Store) (i p : ℕ) (xs : List ℕ) → ((j : ℕ) → j < length xs → place (i + j) ≡ p + j) → p + length xs ≤ length s
    → write_through place s i xs ≡ overlay s p xs
unfolding write_through
write_run place s i p [] f h = sym (overlay_none s p)
write_run place s i p (x ∷ xs) f h =
    let q : place i ≡ p = ap place (sym (add-zero i)) ∙ f 0 (omega arith) ∙ add-zero p in
    let t = overlay s p (x ∷ []) in
    let w : length t ≡ length s = overlay_length s p (x ∷ []) (omega arith) in
    ap (λ (k : ℕ). write_through place (overlay s k (x ∷ [])) (i + 1) xs) q
    ∙ write_run place t (i + 1) (p + 1) xs (λ j l. let e : i + 1 + j ≡ i + suc j = omega arith in rw e (f (suc j) (omega arith) ∙ omega arith)) (omega arith)
    ∙ overlay_join s p (x ∷ []) (omega arith) xs

-- ---- within one block
pub read_in_block : (s : Store) (o offset n : ℕ) → offset % block_length + n ≤ block_length → byte_at s o offset + n ≤ length s
    → read_file s o offset n ≡ part s (byte_at s o offset) n
unfolding read_file
read_in_block s o offset n h k = read_run (byte_at s o) s offset (byte_at s o offset) n (λ j l. byte_at_next s o offset j (omega arith)) k

pub write_in_block : (s : Store) (o offset : ℕ) (xs : List ℕ) → offset % block_length + length xs ≤ block_length → byte_at s o offset + length xs ≤ length s
    → write_file s o offset xs ≡ overlay s (byte_at s o offset) xs
unfolding write_file
write_in_block s o offset xs h k = write_run (byte_at s o) s offset (byte_at s o offset) xs (λ j l. byte_at_next s o offset j (omega arith)) k

-- ---- in parts
through_parts : (place : ℕ → ℕ) (s : Store) (i m n : ℕ) → read_through place s i (m + n) ≡ read_through place s i m ++ read_through place s (i + m) n
unfolding read_through
through_parts place s i zero n = rw (add-zero i, zero-add n)
through_parts place s i (suc m) n =
    let e : suc m + n ≡ suc (m + n) = omega arith in
    let f : i + suc m ≡ i + 1 + m = omega arith in
    rw (e, f) (ap (λ (l : List ℕ). get_or s (place i) 0 ∷ l) (through_parts place s (i + 1) m n))

pub read_parts : (s : Store) (o offset m n : ℕ) → read_file s o offset (m + n) ≡ read_file s o offset m ++ read_file s o (offset + m) n
unfolding read_file
read_parts s o offset m n = through_parts (byte_at s o) s offset m n

write_through_parts : (place : ℕ → ℕ) (s : Store) (i : ℕ) (xs ys : List ℕ)
    → write_through place s i (xs ++ ys) ≡ write_through place (write_through place s i xs) (i + length xs) ys
unfolding write_through
write_through_parts place s i [] ys = rw (add-zero i)
write_through_parts place s i (x ∷ xs) ys =
    let f : i + suc (length xs) ≡ i + 1 + length xs = omega arith in
    rw f (write_through_parts place (overlay s (place i) (x ∷ [])) (i + 1) xs ys)

pub write_parts : (s : Store) (o offset : ℕ) (xs ys : List ℕ) → Sound s → o < objects s → LiveObject (blocks s) (object_at s o) → Below 256 xs
    → offset + length xs ≤ size_of s o → write_file s o offset (xs ++ ys) ≡ write_file (write_file s o offset xs) o (offset + length xs) ys
unfolding write_file
write_parts s o offset xs ys h l v b k =
    let t = write_file s o offset xs in
    let e = kept_structure s t (write_file_lem s o offset xs h v b k) in
    write_through_parts (byte_at s o) s offset xs ys
    ∙ ap (λ (place : ℕ → ℕ). write_through place t (offset + length xs) ys) (fun_ext (λ i. sym (byte_at_same s t e o l i)))
