-- File data written: what it makes of its file's contents, and that it leaves every other file's. Assumes nothing.
use mathlib.Core.Path.{◌≡◌, refl, sym, ap, ◌∙◌}
use mathlib.Core.Logic.{◌≢◌, ⊎_elim, ◌⊎◌}
use mathlib.Core.List.{List, [], ◌∷◌}
use Prim.Native.Nat.{ℕ, zero, suc, ◌+◌, ◌-◌, ◌≤◌, ◌<◌}
use native.Mathlib.Omega.{arith}
use native.Mathlib.Nat.{add-zero, sub_self}
use lib.ListN.{length, get_or}
use lib.Seq.{ext_get_or}
use Rattle.spec.specs.Bytes.{overlay}
use Rattle.spec.specs.Edits.{write_through, write_file}
use Rattle.spec.specs.Image.{Store, objects}
use Rattle.spec.specs.Room.{size_of, byte_at}
use Rattle.laws.proofs.BlockWrites.{write_file_lem}
use Rattle.laws.proofs.Bytes.{lt_or_le, overlay_length}
use Rattle.laws.proofs.GoodRecords.{GoodRecords, live_at}
use Rattle.laws.proofs.Range.{Below}
use Rattle.laws.proofs.Structure.{SameStructure, kept_structure, size_of_same, byte_at_same}
use Rattle.laws.proofs.Valid.{Live}
use Rattle.laws_contents.specs.Contents.{contents}
use Rattle.laws_contents.proofs.Laid.{WithinStore, Outside, within?, not_both, byte_apart, byte_within}
use Rattle.laws_contents.proofs.Contents.{contents_length, contents_byte, contents_same}
use Rattle.laws_contents.proofs.Places.{place_before, place_one}

-- one byte laid over changes no other
one_other : (s : Store) (p x q : ℕ) → p < length s → p ≢ q → get_or (overlay s p (x ∷ [])) q 0 ≡ get_or s q 0
one_other s p x q h d =
    byte_apart s p (x ∷ []) (omega arith) q
    (⊎_elim (λ (l : q < p). ◌⊎◌.inl l) (λ (l : p ≤ q). ◌⊎◌.inr (omega arith)) (lt_or_le q p))

-- bytes written at places leave the byte at any other place
through_other : (place : ℕ → ℕ) (s : Store) (i : ℕ) (xs : List ℕ) (q : ℕ)
    → ((j : ℕ) → j < length xs → (place (i + j) < length s) × (place (i + j) ≢ q)) → get_or (write_through place s i xs) q 0 ≡ get_or s q 0
unfolding write_through
through_other place s i [] q f = refl
through_other place s i (x ∷ xs) q f =
    let t = overlay s (place i) (x ∷ []) in
    let a : (place i < length s) × (place i ≢ q) = rw (add-zero i) at (f 0 (omega arith)) in
    let w : length t ≡ length s = overlay_length s (place i) (x ∷ []) (omega arith) in
    through_other place t (i + 1) xs q (λ j l. let e : i + 1 + j ≡ i + suc j = omega arith in rw (e, w) (f (suc j) (omega arith)))
    ∙ one_other s (place i) x q a.0 a.1

-- bytes written at places that differ are there
through_same : (place : ℕ → ℕ) (s : Store) (i : ℕ) (xs : List ℕ) → ((j : ℕ) → j < length xs → place (i + j) < length s)
    → ((j k : ℕ) → j < length xs → k < length xs → place (i + j) ≡ place (i + k) → j ≡ k)
    → (j : ℕ) → j < length xs → get_or (write_through place s i xs) (place (i + j)) 0 ≡ get_or xs j 0
unfolding write_through
through_same place s i [] f d j l = absurd (omega arith)
through_same place s i (x ∷ xs) f d zero l =
    let t = overlay s (place i) (x ∷ []) in
    let a : place i < length s = rw (add-zero i) at (f 0 (omega arith)) in
    let w : length t ≡ length s = overlay_length s (place i) (x ∷ []) (omega arith) in
    through_other place t (i + 1) xs (place (i + 0)) (λ j k.
    let e : i + 1 + j ≡ i + suc j = omega arith in
    rw (e, w) (f (suc j) (omega arith), λ q. omega (arith, d (suc j) 0 (omega arith) (omega arith) q)))
    ∙ ap (λ (p : ℕ). get_or t (place p) 0) (add-zero i)
    ∙ byte_within s (place i) (x ∷ []) (omega arith) (place i) (omega arith, omega arith) ∙ rw (sub_self (place i))
through_same place s i (x ∷ xs) f d (suc j) l =
    let t = overlay s (place i) (x ∷ []) in
    let a : place i < length s = rw (add-zero i) at (f 0 (omega arith)) in
    let w : length t ≡ length s = overlay_length s (place i) (x ∷ []) (omega arith) in
    let e : (k : ℕ) → i + 1 + k ≡ i + suc k = λ k. omega arith in
    ap (λ (p : ℕ). get_or (write_through place t (i + 1) xs) (place p) 0) (sym (e j))
    ∙ through_same place t (i + 1) xs (λ k b. rw (e k, w) (f (suc k) (omega arith)))
    (λ k m b c q. omega (arith, d (suc k) (suc m) (omega arith) (omega arith) (rw (e k, e m) at q))) j (omega arith)

module _ (s : Store) (g : GoodRecords s) (o offset : ℕ) (xs : List ℕ) (l : o < objects s) (v : Live s o) (b : Below 256 xs)
    (fits : offset + length xs ≤ size_of s o) where
  -- no size and no block of a file changes
  pub write_structure : SameStructure s (write_file s o offset xs)
  write_structure = kept_structure s (write_file s o offset xs) (write_file_lem s o offset xs g.sound (live_at s g o l v) b fits)

  -- every other file keeps its contents
  pub write_others : (p : ℕ) → p < objects s → p ≢ o → contents (write_file s o offset xs) p ≡ contents s p
  unfolding write_file
  write_others p m d =
      let t = write_file s o offset xs in
      contents_same s t p p (size_of_same s t write_structure p m) (λ k h.
      ap (λ (q : ℕ). get_or t q 0) (byte_at_same s t write_structure p m k)
      ∙ through_other (byte_at s o) s offset xs (byte_at s p k) (λ j i.
      (place_before s g o l (offset + j) (omega arith), λ e. d (sym (place_one s g o p (offset + j) k l m (omega arith) h e).0))))

  -- a byte of the file that is not written stays
  byte_other : (k : ℕ) → k < size_of s o → Outside offset (length xs) k → get_or (write_file s o offset xs) (byte_at s o k) 0 ≡ get_or s (byte_at s o k) 0
  unfolding write_file
  byte_other k h a =
      through_other (byte_at s o) s offset xs (byte_at s o k) (λ j i. (
        place_before s g o l (offset + j) (omega arith),
        λ e.
            let q = (place_one s g o o (offset + j) k l l (omega arith) h e).1 in
            not_both offset (length xs) k (omega arith, omega arith) a,
      ))

  -- a byte of the file that is written is there
  byte_there : (k : ℕ) → WithinStore offset (length xs) k → get_or (write_file s o offset xs) (byte_at s o k) 0 ≡ get_or xs (k - offset) 0
  unfolding write_file
  byte_there k a =
      let e : k ≡ offset + (k - offset) = omega arith in
      ap (λ (q : ℕ). get_or (write_file s o offset xs) (byte_at s o q) 0) e
      ∙ through_same (byte_at s o) s offset xs (λ n m. place_before s g o l (offset + n) (omega arith))
      (λ n m x w q. omega (arith, (place_one s g o o (offset + n) (offset + m) l l (omega arith) (omega arith) q).1)) (k - offset) (omega arith)

  -- the file's own contents get the bytes in their place
  pub write_contents : contents (write_file s o offset xs) o ≡ overlay (contents s o) offset xs
  write_contents =
      let t = write_file s o offset xs in
      let old = contents s o in
      let c = contents_length s o in
      let size = size_of_same s t write_structure o l in
      let long : offset + length xs ≤ length old = omega arith in
      ext_get_or 0 (contents t o) (overlay old offset xs) (contents_length t o ∙ size ∙ sym (overlay_length old offset xs long ∙ c)) (λ k h.
      let i : k < size_of s o = omega (arith, contents_length t o) in
      contents_byte t o k (omega arith)
      ∙ ap (λ (q : ℕ). get_or t q 0) (byte_at_same s t write_structure o l k)
      ∙ ⊎_elim
      (λ (a : WithinStore offset (length xs) k). byte_there k a ∙ sym (byte_within old offset xs long k a))
      (λ (a : Outside offset (length xs) k). byte_other k i a ∙ sym (byte_apart old offset xs long k a ∙ contents_byte s o k i))
      (within? offset (length xs) k))
