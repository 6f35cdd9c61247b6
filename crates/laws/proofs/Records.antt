-- The laws of object records: what was written is read again, and a write elsewhere leaves a record as it was. Assumes nothing.
use mathlib.Core.Path.{◌≡◌, refl, sym, ap, ap₂, ◌∙◌}
use mathlib.Core.Logic.{◌≢◌, ⊎_elim, ◌⊎◌}
use mathlib.Core.List.{List, [], ◌∷◌, ◌++◌}
use Prim.Native.Nat.{ℕ, zero, suc, ◌+◌, ◌*◌, ◌^◌, ◌≤◌, ◌<◌}
use native.Mathlib.Omega.{arith}
use native.Mathlib.Nat.{add-zero, add_assoc, eq-or-lt_of_le, le_of_suc-le-suc}
use lib.Dec.{lit≤}
use lib.Seq.{take-suc, take_all, get_or-append_seam}
use lib.ListN.{length, take, get_or, length-append, get_or-append}
use Rattle.kinds.specs.Layout.{generation_offset, mode_offset, uid_offset, gid_offset, size_offset, atime_offset, mtime_offset, ctime_offset, blocks_offset}
use Rattle.kinds.specs.Layout.{verifier_offset, exclusive_offset, object_length, nanoseconds_offset}
use Rattle.kinds.specs.Numbers.{file_blocks}
use Rattle.kinds.specs.declared.object.Time.{Time}
use Rattle.kinds.specs.declared.object.Object.{Object}
use Rattle.spec.specs.Bytes.{be_of, part, overlay, be_at, bytes_of}
use Rattle.spec.specs.Image.{Store, object_start, halves_at, halves_bytes, time_at, time_bytes, object_from, head_bytes, times_bytes, verifier_bytes, object_bytes}
use Rattle.spec.specs.Image.{object_at, put_object}
use Rattle.laws.proofs.Bytes.{lt_or_le, bytes_length, be_part, part_same, part_right, part_left, part_whole, be_bytes}
use Rattle.laws.proofs.Apart.{Apart, part_apart}

-- a value whose numbers fit their places, as every value of the code's type does
pub record FitsTime (t : Time) : Type 0 where
  pub seconds : t.seconds < 2 ^ 32
  pub nanoseconds : t.nanoseconds < 2 ^ 32

pub record FitsObject (v : Object) : Type 0 where
  pub kind : v.kind < 2 ^ 32
  pub generation : v.generation < 2 ^ 32
  pub mode : v.mode < 2 ^ 32
  pub uid : v.uid < 2 ^ 32
  pub gid : v.gid < 2 ^ 32
  pub size : v.size < 2 ^ 32
  pub atime : FitsTime v.atime
  pub mtime : FitsTime v.mtime
  pub ctime : FitsTime v.ctime
  pub long : length v.blocks ≡ file_blocks
  pub halves : (k : ℕ) → get_or v.blocks k 0 < 2 ^ 16
  pub verifier : v.verifier < 2 ^ 64
  pub exclusive : v.exclusive < 2 ^ 32

-- ---- lengths
pub halves_length : (k : ℕ) (xs : List ℕ) → length (halves_bytes k xs) ≡ 2 * k
unfolding halves_bytes
halves_length zero xs = refl
halves_length (suc k) xs = simp (length-append, bytes_length) (omega (arith, halves_length k xs))

pub halves_count : (b : List ℕ) (at k : ℕ) → length (halves_at b at k) ≡ k
unfolding halves_at
halves_count b at zero = refl
halves_count b at (suc k) = simp length-append (omega (arith, halves_count b at k))

pub object_length_lem : (v : Object) → length (object_bytes v) ≡ object_length
unfolding object_bytes head_bytes times_bytes time_bytes verifier_bytes bytes_of halves_bytes
object_length_lem v = refl

-- ---- one of several numbers of two bytes
half_read_last : (b : List ℕ) (at n : ℕ) → get_or (halves_at b at n ++ (be_at b (at + 2 * n) 2 ∷ [])) n 0 ≡ be_at b (at + 2 * n) 2
half_read_last b at n =
    ap (λ (k : ℕ). get_or (halves_at b at n ++ (be_at b (at + 2 * n) 2 ∷ [])) k 0) (sym (halves_count b at n))
    ∙ get_or-append_seam (halves_at b at n) (be_at b (at + 2 * n) 2) [] 0

pub half_read : (b : List ℕ) (at n k : ℕ) → k < n → get_or (halves_at b at n) k 0 ≡ be_at b (at + 2 * k) 2
unfolding halves_at
half_read b at zero k h = absurd (omega arith)
half_read b at (suc n) k h =
    ⊎_elim (λ (e : k ≡ n). rw e (half_read_last b at n))
    (λ (l : k < n). get_or-append (halves_at b at n) (be_at b (at + 2 * n) 2 ∷ []) 0 k (rw halves_count l) ∙ half_read b at n k l)
    (eq-or-lt_of_le (le_of_suc-le-suc h))

-- ---- an object is read off its own 92 bytes
pub halves_part : (b : List ℕ) (at n i k : ℕ) → i + 2 * k ≤ n → halves_at (part b at n) i k ≡ halves_at b (at + i) k
unfolding halves_at
halves_part b at n i zero h = refl
halves_part b at n i (suc k) h =
    ap₂ (λ (l : List ℕ) (x : ℕ). l ++ (x ∷ [])) (halves_part b at n i k (omega arith))
    (be_part b at n (i + 2 * k) 2 (omega arith) ∙ ap (λ (q : ℕ). be_at b q 2) (omega arith))

pub object_part : (b : List ℕ) (at : ℕ) → object_from b at ≡ object_from (part b at object_length) 0
unfolding object_from time_at
object_part b at = sym (cc (
  be_part b at object_length 0 4 (lit≤ tt),
  add-zero at,
  be_part b at object_length generation_offset 4 (lit≤ tt),
  be_part b at object_length mode_offset 4 (lit≤ tt),
  be_part b at object_length uid_offset 4 (lit≤ tt),
  be_part b at object_length gid_offset 4 (lit≤ tt),
  be_part b at object_length size_offset 4 (lit≤ tt),
  be_part b at object_length atime_offset 4 (lit≤ tt),
  be_part b at object_length (atime_offset + nanoseconds_offset) 4 (lit≤ tt),
  be_part b at object_length mtime_offset 4 (lit≤ tt),
  be_part b at object_length (mtime_offset + nanoseconds_offset) 4 (lit≤ tt),
  be_part b at object_length ctime_offset 4 (lit≤ tt),
  be_part b at object_length (ctime_offset + nanoseconds_offset) 4 (lit≤ tt),
  add_assoc at atime_offset nanoseconds_offset,
  add_assoc at mtime_offset nanoseconds_offset,
  add_assoc at ctime_offset nanoseconds_offset,
  halves_part b at object_length blocks_offset file_blocks (lit≤ tt),
  be_part b at object_length verifier_offset 8 (lit≤ tt),
  be_part b at object_length exclusive_offset 4 (lit≤ tt),
))

pub object_by_part : (b b' : List ℕ) (at : ℕ) → part b at object_length ≡ part b' at object_length → object_from b at ≡ object_from b' at
object_by_part b b' at e = object_part b at ∙ ap (λ (x : List ℕ). object_from x 0) e ∙ sym (object_part b' at)

-- ---- what was written is read again
half_last : (n : ℕ) (xs : List ℕ) → part (halves_bytes n xs ++ bytes_of 2 (get_or xs n 0)) (2 * n) 2 ≡ bytes_of 2 (get_or xs n 0)
half_last n xs =
    ap (λ (q : ℕ). part (halves_bytes n xs ++ bytes_of 2 (get_or xs n 0)) q 2) (sym (add-zero (2 * n)))
    ∙ part_right (halves_bytes n xs) (bytes_of 2 (get_or xs n 0)) (2 * n) 0 2 (halves_length n xs) ∙ part_whole (bytes_of 2 (get_or xs n 0)) 2 (bytes_length 2 _)

half_at : (n : ℕ) (xs : List ℕ) (k : ℕ) → k < n → part (halves_bytes n xs) (2 * k) 2 ≡ bytes_of 2 (get_or xs k 0)
unfolding halves_bytes
half_at zero xs k h = absurd (omega arith)
half_at (suc n) xs k h =
    ⊎_elim (λ e. rw e (half_last n xs))
    (λ (l : k < n). part_left (halves_bytes n xs) (bytes_of 2 (get_or xs n 0)) (2 * k) 2 (rw halves_length (omega arith)) ∙ half_at n xs k l)
    (eq-or-lt_of_le (le_of_suc-le-suc h))

halves_again : (n : ℕ) (xs : List ℕ) (k : ℕ) → k ≤ n → k ≤ length xs → ((j : ℕ) → get_or xs j 0 < 2 ^ 16) → halves_at (halves_bytes n xs) 0 k ≡ take k xs
unfolding halves_at be_at
halves_again n xs zero h l f = refl
halves_again n xs (suc k) h l f =
    ap₂ (λ (z : List ℕ) (x : ℕ). z ++ (x ∷ [])) (halves_again n xs k (omega arith) (omega arith) f)
    (ap (λ (q : ℕ). be_of (part (halves_bytes n xs) q 2)) (omega arith) ∙ ap be_of (half_at n xs k h) ∙ be_bytes 2 (get_or xs k 0) (f k))
    ∙ sym (take-suc xs k 0 l)

blocks_again : (v : Object) → FitsObject v → halves_at (object_bytes v) blocks_offset file_blocks ≡ v.blocks
unfolding object_bytes head_bytes times_bytes time_bytes bytes_of
blocks_again v f =
    let front = head_bytes v ++ times_bytes v in
    let numbers = halves_bytes file_blocks v.blocks in
    let long = halves_length file_blocks v.blocks in
    sym (halves_part (object_bytes v) blocks_offset (2 * file_blocks) 0 file_blocks (lit≤ tt))
    ∙ ap (λ (x : List ℕ). halves_at x 0 file_blocks)
    (part_left (front ++ numbers) (verifier_bytes v) blocks_offset (2 * file_blocks) (simp length-append (omega arith))
    ∙ part_right front numbers blocks_offset 0 (2 * file_blocks) refl ∙ part_whole numbers (2 * file_blocks) long)
    ∙ halves_again file_blocks v.blocks file_blocks (lit≤ tt) (omega arith) f.halves ∙ take_all file_blocks v.blocks (omega arith)

pub object_again : (v : Object) → FitsObject v → object_from (object_bytes v) 0 ≡ v
unfolding object_from time_at object_bytes head_bytes times_bytes time_bytes verifier_bytes bytes_of halves_bytes be_at part
object_again v f =
    λ i. record {
      kind = be_bytes 4 v.kind f.kind i;
      generation = be_bytes 4 v.generation f.generation i;
      mode = be_bytes 4 v.mode f.mode i;
      uid = be_bytes 4 v.uid f.uid i;
      gid = be_bytes 4 v.gid f.gid i;
      size = be_bytes 4 v.size f.size i;
      atime = record {
        seconds = be_bytes 4 v.atime.seconds f.atime.seconds i;
        nanoseconds = be_bytes 4 v.atime.nanoseconds
            f.atime.nanoseconds i;
      };
      mtime = record {
        seconds = be_bytes 4 v.mtime.seconds f.mtime.seconds i;
        nanoseconds = be_bytes 4 v.mtime.nanoseconds
            f.mtime.nanoseconds i;
      };
      ctime = record {
        seconds = be_bytes 4 v.ctime.seconds f.ctime.seconds i;
        nanoseconds = be_bytes 4 v.ctime.nanoseconds
            f.ctime.nanoseconds i;
      };
      blocks = blocks_again v f i;
      verifier = be_bytes 8 v.verifier f.verifier i;
      exclusive = be_bytes 4 v.exclusive f.exclusive i;
    }

pub object_at_same : (s : Store) (o : ℕ) (v : Object) → object_start o + object_length ≤ length s → FitsObject v → object_at (put_object s o v) o ≡ v
unfolding put_object object_at
object_at_same s o v h f =
    object_part (put_object s o v) (object_start o)
    ∙ ap (λ (x : List ℕ). object_from x 0) (part_same s (object_start o) (object_bytes v) (rw object_length_lem h) object_length (object_length_lem v))
    ∙ object_again v f

-- ---- what is written apart from a record leaves it as it was
pub object_at_apart : (s : Store) (at : ℕ) (xs : List ℕ) → at + length xs ≤ length s
    → (o : ℕ) → Apart at (length xs) (object_start o) object_length → object_at (overlay s at xs) o ≡ object_at s o
unfolding object_at
object_at_apart s at xs h o d = object_by_part (overlay s at xs) s (object_start o) (part_apart s at xs h (object_start o) object_length d)

pub object_at_other : (s : Store) (o : ℕ) (v : Object) → object_start o + object_length ≤ length s
    → (o' : ℕ) → o' ≢ o → object_at (put_object s o v) o' ≡ object_at s o'
unfolding put_object
object_at_other s o v h o' d =
    object_at_apart s (object_start o) (object_bytes v) (rw object_length_lem h) o' (rw object_length_lem
    (⊎_elim (λ (l : o' < o). ◌⊎◌.inl (omega arith)) (λ (l : o ≤ o'). ◌⊎◌.inr (omega arith)) (lt_or_le o' o)))
