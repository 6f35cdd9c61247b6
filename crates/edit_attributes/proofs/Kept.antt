-- Numbers that were read from a store, written again in their place, leave it as it was; and attributes, or a verifier, written alone are a
-- record written whole. Assumes nothing.
use mathlib.Core.Path.{◌≡◌, refl, sym, ap, ap₂, ◌∙◌}
use mathlib.Core.List.{List, ◌++◌, append_assoc}
use Prim.Native.Nat.{ℕ, zero, suc, ◌+◌, ◌-◌, ◌*◌, ◌≤◌}
use native.Mathlib.Omega.{arith}
use lib.ListN.{length, take, drop, length-append, take-append-drop}
use lib.Seq.{drop-drop}
use Rattle.kinds.specs.Layout.{generation_offset, mode_offset, uid_offset, gid_offset, size_offset, atime_offset, mtime_offset, ctime_offset, blocks_offset}
use Rattle.kinds.specs.Layout.{verifier_offset, exclusive_offset, object_length, nanoseconds_offset, time_length}
use Rattle.kinds.specs.Numbers.{file_blocks}
use Rattle.kinds.specs.declared.call.Settable.{Settable}
use Rattle.kinds.specs.declared.object.Object.{Object}
use Rattle.kinds.specs.declared.object.Time.{Time}
use Rattle.spec.specs.Bytes.{part, overlay, bytes_of}
use Rattle.spec.specs.Edits.{with_attributes, set_attributes, mtime_and_ctime, with_verifier}
use Rattle.spec.specs.Image.{Store, object_start, halves_at, halves_bytes, time_at, time_bytes, head_bytes, times_bytes, verifier_bytes, object_bytes}
use Rattle.spec.specs.Image.{object_from, object_at, put_object}
use Rattle.laws.proofs.Bytes.{part_length, part_add, part_after, overlay_join, overlay_length, bytes_length}
use Rattle.laws.proofs.Range.{Below, bytes_kept}
use Rattle.laws.proofs.Records.{half_read}

-- the first k of n block numbers
halves_low : (b : List ℕ) → Below 256 b → (at n k : ℕ) → k ≤ n → at + 2 * n ≤ length b → halves_bytes k (halves_at b at n) ≡ part b at (2 * k)
unfolding halves_bytes part
halves_low b f at n zero h l = refl
halves_low b f at n (suc k) h l =
    let e : 2 * k + 2 ≡ 2 * suc k = omega arith in
    ap₂ (λ (xs ys : List ℕ). xs ++ ys) (halves_low b f at n k (omega arith) l)
    (ap (bytes_of 2) (half_read b at n k h) ∙ bytes_kept b f 2 (at + 2 * k) (omega arith))
    ∙ sym (part_add b at (2 * k) 2) ∙ ap (part b at) e

-- bytes that stand there already
pub overlay_kept : (s : List ℕ) (p n : ℕ) (xs : List ℕ) → xs ≡ part s p n → p + n ≤ length s → overlay s p xs ≡ s
unfolding overlay part
overlay_kept s p n xs e h =
    let l : length xs ≡ n = ap length e ∙ part_length s p n h in
    ap₂ (λ (x : List ℕ) (k : ℕ). take p s ++ x ++ drop (p + k) s) e l
    ∙ ap (λ (x : List ℕ). take p s ++ take n (drop p s) ++ x) (sym (drop-drop n p s))
    ∙ append_assoc (take p s) (take n (drop p s)) (drop n (drop p s))
    ∙ ap (λ (x : List ℕ). take p s ++ x) (take-append-drop n (drop p s)) ∙ take-append-drop p s

-- bytes that stand there already, before others
pub skip : (s : List ℕ) (p n : ℕ) (xs ys : List ℕ) → xs ≡ part s p n → p + n ≤ length s → overlay s p (xs ++ ys) ≡ overlay s (p + n) ys
skip s p n xs ys e h =
    let l : length xs ≡ n = ap length e ∙ part_length s p n h in
    sym (overlay_join s p xs (omega (arith, l)) ys) ∙ ap₂ (λ (z : List ℕ) (k : ℕ). overlay z (p + k) ys) (overlay_kept s p n xs e h) l

-- two parts, one after the other
joined : (s : List ℕ) (p q n m : ℕ) (xs ys : List ℕ) → q ≡ p + n → xs ≡ part s p n → ys ≡ part s q m → xs ++ ys ≡ part s p (n + m)
joined s p q n m xs ys e a b = ap₂ (λ (x y : List ℕ). x ++ y) a (b ∙ ap (λ (k : ℕ). part s k m) e) ∙ sym (part_add s p n m)

-- the bytes of mode, uid and gid, of the three times, of the block numbers, of the verifier and its flag, and of these last two
abbrev pub owner_length : ℕ
owner_length = size_offset - mode_offset

abbrev pub times_length : ℕ
times_length = blocks_offset - atime_offset

abbrev pub blocks_length : ℕ
blocks_length = verifier_offset - blocks_offset

abbrev pub verifier_length : ℕ
verifier_length = object_length - verifier_offset

abbrev rest_length : ℕ
rest_length = object_length - blocks_offset

-- the bytes of a mode, uid and gid, and of a time
pub owner_size : (mode uid gid : ℕ) → length (bytes_of 4 mode ++ bytes_of 4 uid ++ bytes_of 4 gid) ≡ owner_length
owner_size mode uid gid = simp (length-append, bytes_length)

pub time_length_lem : (t : Time) → length (time_bytes t) ≡ time_length
unfolding time_bytes
time_length_lem t = simp (length-append, bytes_length)

module _ (s : Store) (o : ℕ) (f : Below 256 s) (h : object_start o + object_length ≤ length s) where
  abbrev at : ℕ
  at = object_start o

  time_kept : (p : ℕ) → p + time_length ≤ length s → time_bytes (time_at s p) ≡ part s p time_length
  unfolding time_bytes time_at
  time_kept p k =
      joined s p (p + nanoseconds_offset) nanoseconds_offset 4 _ _ refl (bytes_kept s f 4 p (omega arith))
      (bytes_kept s f 4 (p + nanoseconds_offset) (omega arith))

  -- the type and the generation
  start_kept : bytes_of 4 (object_at s o).kind ++ bytes_of 4 (object_at s o).generation ≡ part s at mode_offset
  unfolding object_at object_from
  start_kept =
      joined s at (at + generation_offset) generation_offset 4 _ _ refl (bytes_kept s f 4 at (omega arith))
      (bytes_kept s f 4 (at + generation_offset) (omega arith))

  -- the numbers before the size
  pub numbers_kept : bytes_of 4 (object_at s o).kind ++ bytes_of 4 (object_at s o).generation ++ bytes_of 4 (object_at s o).mode
      ++ bytes_of 4 (object_at s o).uid ++ bytes_of 4 (object_at s o).gid ≡ part s at size_offset
  unfolding object_at object_from
  numbers_kept =
      joined s at (at + gid_offset) gid_offset 4 _ _ refl
      (joined s at (at + uid_offset) uid_offset 4 _ _ refl
      (joined s at (at + mode_offset) mode_offset 4 _ _ refl start_kept (bytes_kept s f 4 (at + mode_offset) (omega arith)))
      (bytes_kept s f 4 (at + uid_offset) (omega arith)))
      (bytes_kept s f 4 (at + gid_offset) (omega arith))

  owner_kept : bytes_of 4 (object_at s o).mode ++ bytes_of 4 (object_at s o).uid ++ bytes_of 4 (object_at s o).gid ≡ part s (at + mode_offset) owner_length
  unfolding object_at object_from
  owner_kept =
      joined s (at + mode_offset) (at + gid_offset) (gid_offset - mode_offset) 4 _ _ (omega arith)
      (joined s (at + mode_offset) (at + uid_offset) (uid_offset - mode_offset) 4 _ _ (omega arith)
      (bytes_kept s f 4 (at + mode_offset) (omega arith))
      (bytes_kept s f 4 (at + uid_offset) (omega arith)))
      (bytes_kept s f 4 (at + gid_offset) (omega arith))

  size_kept : bytes_of 4 (object_at s o).size ≡ part s (at + size_offset) 4
  unfolding object_at object_from
  size_kept = bytes_kept s f 4 (at + size_offset) (omega arith)

  atime_kept : time_bytes (object_at s o).atime ≡ part s (at + atime_offset) time_length
  unfolding object_at object_from
  atime_kept = time_kept (at + atime_offset) (omega arith)

  pub times_kept : times_bytes (object_at s o) ≡ part s (at + atime_offset) times_length
  unfolding times_bytes object_at object_from
  times_kept =
      joined s (at + atime_offset) (at + ctime_offset) (2 * time_length) time_length _ _ (omega arith)
      (joined s (at + atime_offset) (at + mtime_offset) time_length time_length _ _ (omega arith)
      (time_kept (at + atime_offset) (omega arith))
      (time_kept (at + mtime_offset) (omega arith)))
      (time_kept (at + ctime_offset) (omega arith))

  blocks_kept : halves_bytes file_blocks (object_at s o).blocks ≡ part s (at + blocks_offset) blocks_length
  unfolding object_at object_from
  blocks_kept = halves_low s f (at + blocks_offset) file_blocks file_blocks (omega arith) (omega arith)

  pub verifier_kept : verifier_bytes (object_at s o) ≡ part s (at + verifier_offset) verifier_length
  unfolding verifier_bytes object_at object_from
  verifier_kept =
      joined s (at + verifier_offset) (at + exclusive_offset) (exclusive_offset - verifier_offset) 4 _ _ (omega arith)
      (bytes_kept s f 8 (at + verifier_offset) (omega arith))
      (bytes_kept s f 4 (at + exclusive_offset) (omega arith))

  -- the block numbers and all behind them
  rest_kept : halves_bytes file_blocks (object_at s o).blocks ++ verifier_bytes (object_at s o) ≡ part s (at + blocks_offset) rest_length
  rest_kept = joined s (at + blocks_offset) (at + verifier_offset) blocks_length verifier_length _ _ (omega arith) blocks_kept verifier_kept

  -- all before the verifier
  front_kept : head_bytes (object_at s o) ++ times_bytes (object_at s o) ++ halves_bytes file_blocks (object_at s o).blocks ≡ part s at verifier_offset
  unfolding head_bytes
  front_kept =
      joined s at (at + blocks_offset) blocks_offset blocks_length _ _ refl
      (joined s at (at + atime_offset) atime_offset times_length _ _ refl
      (joined s at (at + size_offset) size_offset 4 _ _ refl numbers_kept size_kept)
      times_kept)
      blocks_kept

  -- an object written where it was read
  pub object_kept : put_object s o (object_at s o) ≡ s
  unfolding put_object object_bytes
  object_kept = overlay_kept s at object_length _ (joined s at (at + verifier_offset) verifier_offset verifier_length _ _ refl front_kept verifier_kept) h

  -- a verifier and its flag written alone
  pub verifier_written : (verifier flag : ℕ)
      → overlay s (at + verifier_offset) (bytes_of 8 verifier ++ bytes_of 4 flag) ≡ put_object s o (with_verifier verifier flag (object_at s o))
  unfolding put_object object_bytes head_bytes times_bytes verifier_bytes with_verifier
  verifier_written verifier flag = sym (skip s at verifier_offset _ _ front_kept (omega arith))

  module _ (clock : Time) (a : Settable) where
    abbrev w : Object
    w = with_attributes clock a (object_at s o)

    abbrev owner : List ℕ
    owner = bytes_of 4 w.mode ++ bytes_of 4 w.uid ++ bytes_of 4 w.gid

    abbrev rest : List ℕ
    rest = halves_bytes file_blocks (object_at s o).blocks ++ verifier_bytes (object_at s o)

    owner_length_lem : length owner ≡ owner_length
    owner_length_lem = owner_size w.mode w.uid w.gid

    times_length_lem : length (times_bytes w) ≡ times_length
    unfolding times_bytes
    times_length_lem = simp (length-append, time_length_lem)

    abbrev first : Store
    first = overlay s (at + mode_offset) owner

    abbrev second : Store
    second = overlay first (at + atime_offset) (times_bytes w)

    first_length : length first ≡ length s
    first_length = overlay_length s (at + mode_offset) owner (omega (arith, owner_length_lem))

    second_length : length second ≡ length s
    second_length = overlay_length first (at + atime_offset) (times_bytes w) (omega (arith, times_length_lem, first_length)) ∙ first_length

    size_same : part first (at + size_offset) 4 ≡ part s (at + size_offset) 4
    size_same = part_after s (at + mode_offset) owner (omega (arith, owner_length_lem)) (at + size_offset) 4 (omega (arith, owner_length_lem))

    rest_same : part second (at + blocks_offset) rest_length ≡ part s (at + blocks_offset) rest_length
    rest_same =
        part_after first (at + atime_offset) (times_bytes w) (omega (arith, times_length_lem, first_length)) (at + blocks_offset) rest_length
        (omega (arith, times_length_lem))
        ∙ part_after s (at + mode_offset) owner (omega (arith, owner_length_lem)) (at + blocks_offset) rest_length (omega (arith, owner_length_lem))

    spelt : object_bytes w
        ≡ (bytes_of 4 (object_at s o).kind ++ bytes_of 4 (object_at s o).generation)
        ++ (owner ++ (bytes_of 4 (object_at s o).size ++ (times_bytes w ++ rest)))
    unfolding object_bytes head_bytes verifier_bytes with_attributes
    spelt = simp append_assoc

    -- attributes written alone
    pub attributes_written : second ≡ set_attributes s clock o a
    unfolding set_attributes put_object
    attributes_written =
        let past : at + mode_offset + length owner ≡ at + size_offset = omega (arith, owner_length_lem) in
        let behind : at + atime_offset + length (times_bytes w) ≡ at + blocks_offset = omega (arith, times_length_lem) in
        let sized : at + size_offset + 4 ≡ at + atime_offset = omega arith in
        sym (ap (overlay s at) spelt
        ∙ skip s at mode_offset _ _ start_kept (omega arith)
        ∙ sym (overlay_join s (at + mode_offset) owner (omega (arith, owner_length_lem)) _)
        ∙ ap (λ (k : ℕ). overlay first k (bytes_of 4 (object_at s o).size ++ (times_bytes w ++ rest))) past
        ∙ skip first (at + size_offset) 4 _ _ (size_kept ∙ sym size_same) (omega (arith, first_length))
        ∙ ap (λ (k : ℕ). overlay first k (times_bytes w ++ rest)) sized
        ∙ sym (overlay_join first (at + atime_offset) (times_bytes w) (omega (arith, times_length_lem, first_length)) _)
        ∙ ap (λ (k : ℕ). overlay second k rest) behind
        ∙ overlay_kept second (at + blocks_offset) rest_length _ (rest_kept ∙ sym rest_same) (omega (arith, second_length)))

  -- mtime and ctime written alone
  pub touched : (clock : Time) → overlay s (at + mtime_offset) (time_bytes clock ++ time_bytes clock) ≡ set_attributes s clock o mtime_and_ctime
  unfolding with_attributes times_bytes
  touched clock =
      let v = object_at s o in
      let p : at + atime_offset + time_length ≡ at + mtime_offset = omega arith in
      sym (sym (attributes_written clock mtime_and_ctime)
      ∙ ap (λ (z : Store). overlay z (at + atime_offset) (time_bytes v.atime ++ time_bytes clock ++ time_bytes clock))
      (overlay_kept s (at + mode_offset) owner_length _ owner_kept (omega arith))
      ∙ ap (overlay s (at + atime_offset)) (append_assoc (time_bytes v.atime) (time_bytes clock) (time_bytes clock))
      ∙ skip s (at + atime_offset) time_length _ _ atime_kept (omega arith)
      ∙ ap (λ (k : ℕ). overlay s k (time_bytes clock ++ time_bytes clock)) p)
