-- What the converter makes of an image of document 01's layout, and when it makes it. Assumes nothing.
use mathlib.Core.Path.{◌≡◌, refl, sym, ap, ◌∙◌}
use mathlib.Core.Logic.{◌≢◌, ⊎_elim, by_cases}
use mathlib.Core.Bool.{Bool, true, false, ◌&&◌, not, cond}
use mathlib.Core.List.{List, [], ◌∷◌, ◌++◌, append_assoc}
use Prim.Native.Nat.{ℕ, zero, suc, ◌+◌, ◌*◌, ◌-◌, ◌/◌, ◌%◌, ◌≤◌, ◌<◌}
use native.Mathlib.Decide.{ℕ_discrete}
use native.Mathlib.Omega.{arith}
use native.Mathlib.Nat.{add-zero, add_assoc, eq-or-lt_of_le, le_of_suc-le-suc}
use lib.Dec.{eqb, leb, lit≤}
use lib.ListN.{length, take, drop, get_or, length-append, length-drop}
use lib.Seq.{drop-drop, drop_at, get_or-drop}
use borrow.Author.Tests.{eqb-true, eqb-false, leb-true, leb-false, eq-eqb, ne_eqb}
use Rattle.kinds.specs.Layout.{stamp_offset, object_count_offset, objects_head, names_head, blocks_head, generation_offset, mode_offset, uid_offset, gid_offset}
use Rattle.kinds.specs.Layout.{size_offset, atime_offset, mtime_offset, ctime_offset, blocks_offset, object_length, old_object_length, nanoseconds_offset}
use Rattle.kinds.specs.Layout.{child_offset, length_offset, text_offset, name_record_length, block_length}
use Rattle.kinds.specs.Numbers.{FREE, DIRECTORY, STALE, BADHANDLE, handle_length, file_blocks, most_objects, most_name_records, most_blocks}
use Rattle.kinds.specs.declared.object.Attributes.{Attributes}
use Rattle.kinds.specs.declared.object.Object.{Object}
use Rattle.spec.specs.Bytes.{part, zeros, be_of, be_at, words}
use Rattle.spec.specs.Image.{Store, volumes, stamp, objects, names, blocks, object_start, halves_at, time_at, object_from, object_at, Name, name_from}
use Rattle.spec.specs.Image.{name_at, name_length}
use Rattle.spec.specs.Count.{count, every}
use Rattle.spec.specs.Room.{is_live, is_directory, size_of, need, is_used_name, namings, is_in, subdirectories, byte_at}
use Rattle.spec.specs.Checked.{Checked, passed, ◌>>◌, refuse_if}
use Rattle.spec.specs.Handles.{handle_of, reach, size_attribute, used_bytes, link_count, attributes}
use Rattle.spec.specs.Check.{good_counts, image_length, passes}
use Rattle.spec.specs.Convert.{old_start, old_names, old_blocks, old_length, old_shape, old_object_at, lengthened, converted, is_named_once, good_old}
use Rattle.spec.specs.Serve.{Written, check, convert}
use Rattle.laws.proofs.Bytes.{part_length, part_left, part_right, part_whole, part_part, be_part}
use Rattle.laws.proofs.Count.{by_bool, and_both, every_at}
use Rattle.laws.proofs.GoodKept.{used_of}
use Rattle.laws.proofs.Records.{halves_part}
use Rattle.laws.proofs.Searches.{count_ext}
use Rattle.laws.proofs.Valid.{Shaped, Valid, counts_by, valid, used_true}
use Rattle.laws.proofs.Zeros.{be_zero, zero_within}

-- ---- WHAT IS KEPT

-- where name record n and block r start in the old layout, and where byte i of object o stands
abbrev pub old_name_start : List ℕ → ℕ → ℕ
old_name_start b n = names_head + old_object_length * objects b + name_record_length * n

abbrev pub old_block_start : List ℕ → ℕ → ℕ
old_block_start b r = blocks_head + old_object_length * objects b + name_record_length * old_names b + block_length * r

abbrev pub old_byte_at : List ℕ → ℕ → ℕ → ℕ
old_byte_at b o i = old_block_start b (get_or (old_object_at b o).blocks (i / block_length) 0) + i % block_length

-- name record n, the length that it states, and the attributes of object o in an old image
abbrev pub old_name_at : List ℕ → ℕ → Name
old_name_at b n = name_from b (old_name_start b n)

abbrev pub old_name_length : List ℕ → ℕ → ℕ
old_name_length b n = be_at b (old_name_start b n + length_offset) 4

abbrev pub old_directory : List ℕ → ℕ → Bool
old_directory b o = eqb (old_object_at b o).kind DIRECTORY

abbrev pub old_subdirectory : List ℕ → ℕ → ℕ → Bool
old_subdirectory b d n = not (eqb (old_name_length b n) 0) && eqb (old_name_at b n).directory d && old_directory b (old_name_at b n).child

abbrev pub old_attributes : List ℕ → ℕ → Attributes
old_attributes b o =
    record {
      kind = (old_object_at b o).kind;
      mode = (old_object_at b o).mode;
      nlink = cond (old_directory b o) (2 + count (old_names b) (old_subdirectory b o)) 1;
      uid = (old_object_at b o).uid;
      gid = (old_object_at b o).gid;
      size = cond (old_directory b o) 512 (old_object_at b o).size;
      used = block_length * need (old_object_at b o).size;
      fsid = stamp b;
      fileid = o + 1;
      atime = (old_object_at b o).atime;
      mtime = (old_object_at b o).mtime;
      ctime = (old_object_at b o).ctime;
    }

-- which object a handle names in an old image: "Other length, or object not below P: BADHANDLE. Other stamp, free, or other generation: STALE."
abbrev pub old_reach : List ℕ → List ℕ → Checked ℕ
old_reach b h = do
  refuse_if (not (eqb (length h) handle_length)) BADHANDLE
  refuse_if (leb (objects b) (be_at h 4 4)) BADHANDLE
  refuse_if (not (eqb (be_at h 0 4) (stamp b))) STALE
  refuse_if (eqb (old_object_at b (be_at h 4 4)).kind FREE) STALE
  refuse_if (not (eqb (be_at h 8 4) (old_object_at b (be_at h 4 4)).generation)) STALE
  passed (be_at h 4 4)

-- the old image b and the store t that it becomes
pub record Keeps (b : List ℕ) (t : Store) : Type 0 where
  -- "each field of an old record, read at its place in the old layout, is that field of the new record"; "the new fields are zero"
  pub each_object : (o : ℕ) → o < objects b → object_at t o ≡ old_object_at b o
  -- "stamp, counts, the name section and the block section are the same bytes": those before the records, and all behind them
  pub before_records : part t 0 objects_head ≡ part b 0 objects_head
  pub behind_records : drop (object_start (objects t)) t ≡ drop (old_start (objects b)) b
  pub exact : length t ≡ image_length (objects b) (old_names b) (old_blocks b)
  -- so the stamp and the counts
  pub same_stamp : stamp t ≡ stamp b
  pub same_objects : objects t ≡ objects b
  pub same_names : names t ≡ old_names b
  pub same_blocks : blocks t ≡ old_blocks b
  -- "So handles, .. names and file bytes, which are computed from these, are the same"
  pub each_handle : (o : ℕ) → o < objects b → handle_of t o ≡ words (stamp b ∷ o ∷ (old_object_at b o).generation ∷ [])
  pub each_reached : (h : List ℕ) → reach t h ≡ old_reach b h
  pub each_name : (n : ℕ) → name_at t n ≡ old_name_at b n
  pub each_byte : (o i : ℕ) → o < objects b → get_or t (byte_at t o i) 0 ≡ get_or b (old_byte_at b o i) 0

-- ---- the records, each with zeros for the new fields
module _ (b : List ℕ) where
  record_bytes : ℕ → List ℕ
  record_bytes o = part b (old_start o) old_object_length ++ zeros (object_length - old_object_length)

  record_length : (o : ℕ) → old_start (suc o) ≤ length b → length (record_bytes o) ≡ object_length
  unfolding record_bytes
  record_length o h = rw (length-append, part_length b (old_start o) old_object_length (omega arith))

  lengthened_next : (k : ℕ) → lengthened b (suc k) ≡ lengthened b k ++ record_bytes k
  unfolding lengthened record_bytes
  lengthened_next k = append_assoc (lengthened b k) (part b (old_start k) old_object_length) (zeros (object_length - old_object_length))

  pub lengthened_length : (k : ℕ) → old_start k ≤ length b → length (lengthened b k) ≡ object_length * k
  unfolding lengthened
  lengthened_length zero h = refl
  lengthened_length (suc k) h =
      ap length (lengthened_next k)
      ∙ rw (length-append, lengthened_length k (omega arith), record_length k h) (omega arith)

  record_at : (k o : ℕ) → o < k → old_start k ≤ length b → part (lengthened b k) (object_length * o) object_length ≡ record_bytes o
  record_at zero o l h = absurd (omega arith)
  record_at (suc k) o l h =
      ap (λ (x : List ℕ). part x (object_length * o) object_length) (lengthened_next k)
      ∙ ⊎_elim (λ (e : o ≡ k). rw e (last k h)) (λ (m : o < k).
      part_left (lengthened b k) (record_bytes k) (object_length * o) object_length (omega (arith, lengthened_length k (omega arith)))
      ∙ record_at k o m (omega arith)) (eq-or-lt_of_le (le_of_suc-le-suc l))
    where
      last : (j : ℕ) → old_start (suc j) ≤ length b → part (lengthened b j ++ record_bytes j) (object_length * j) object_length ≡ record_bytes j
      last j m =
          ap (λ (q : ℕ). part (lengthened b j ++ record_bytes j) q object_length) (sym (add-zero (object_length * j)))
          ∙ part_right (lengthened b j) (record_bytes j) (object_length * j) 0 object_length (lengthened_length j (omega arith))
          ∙ part_whole (record_bytes j) object_length (record_length j m)

-- ---- the image that they make
-- "volume: count 1"; P, Q and R in range; "Length exactly 20 + 80P + 44Q + 512R"
pub record OldShaped (b : List ℕ) : Type 0 where
  pub volume : volumes b ≡ 1
  pub some_object : 1 ≤ objects b
  pub few_objects : objects b ≤ most_objects
  pub few_names : old_names b ≤ most_name_records
  pub few_blocks : old_blocks b ≤ most_blocks
  pub exact : length b ≡ old_length (objects b) (old_names b) (old_blocks b)

module _ (b : List ℕ) (h : old_start (objects b) ≤ length b) where
  front : List ℕ
  front = part b 0 objects_head ++ lengthened b (objects b)

  head_length : length (part b 0 objects_head) ≡ objects_head
  head_length = part_length b 0 objects_head (omega arith)

  front_length : length front ≡ object_start (objects b)
  unfolding front
  front_length = rw (length-append, head_length, lengthened_length b (objects b) h)

  in_front : (i w : ℕ) → i + w ≤ object_start (objects b) → part (converted b) i w ≡ part front i w
  unfolding converted front
  in_front i w l = part_left front (drop (old_start (objects b)) b) i w (omega (arith, front_length))

  in_head : (i w : ℕ) → i + w ≤ objects_head → part (converted b) i w ≡ part b i w
  unfolding front
  in_head i w l =
      in_front i w (omega arith) ∙ part_left (part b 0 objects_head) (lengthened b (objects b)) i w (omega (arith, head_length))
      ∙ part_part b 0 objects_head i w l ∙ ap (λ (q : ℕ). part b q w) (omega arith)

  in_record : (o : ℕ) → o < objects b → part (converted b) (object_start o) object_length ≡ record_bytes b o
  unfolding front
  in_record o l =
      in_front (object_start o) object_length (omega arith)
      ∙ part_right (part b 0 objects_head) (lengthened b (objects b)) objects_head (object_length * o) object_length head_length
      ∙ record_at b (objects b) o l h

  behind : drop (object_start (objects b)) (converted b) ≡ drop (old_start (objects b)) b
  unfolding converted front
  behind = drop_at front (drop (old_start (objects b)) b) (object_start (objects b)) front_length

  -- a part behind the records
  part_behind : (i w : ℕ) → part (converted b) (object_start (objects b) + i) w ≡ part b (old_start (objects b) + i) w
  unfolding part
  part_behind i w =
      ap (take w) (sym (drop-drop i (object_start (objects b)) (converted b)) ∙ ap (drop i) behind ∙ drop-drop i (old_start (objects b)) b)

  byte_behind : (i : ℕ) → get_or (converted b) (object_start (objects b) + i) 0 ≡ get_or b (old_start (objects b) + i) 0
  byte_behind i =
      sym (get_or-drop (object_start (objects b)) (converted b) i 0) ∙ ap (λ (x : List ℕ). get_or x i 0) behind ∙ get_or-drop (old_start (objects b)) b i 0

  -- ---- its counts
  stamp_kept : stamp (converted b) ≡ stamp b
  unfolding stamp be_at
  stamp_kept = ap be_of (in_head stamp_offset 4 (lit≤ tt))

  volumes_kept : volumes (converted b) ≡ volumes b
  unfolding volumes be_at
  volumes_kept = ap be_of (in_head 0 4 (lit≤ tt))

  objects_kept : objects (converted b) ≡ objects b
  unfolding objects be_at
  objects_kept = ap be_of (in_head object_count_offset 4 (lit≤ tt))

  names_kept : names (converted b) ≡ old_names b
  unfolding names old_names be_at
  names_kept =
      rw objects_kept (ap (λ (q : ℕ). be_of (part (converted b) q 4)) (sym (add-zero (object_start (objects b))))
      ∙ ap be_of (part_behind 0 4) ∙ ap (λ (q : ℕ). be_of (part b q 4)) (add-zero (old_start (objects b))))

  -- a part of the name section or of the block section, at a place and at its old place
  section_kept : (at old i w : ℕ) → at ≡ object_start (objects b) + i → old ≡ old_start (objects b) + i → part (converted b) at w ≡ part b old w
  section_kept at old i w e f = rw (e, f) (part_behind i w)

  number_kept : (at old i w : ℕ) → at ≡ object_start (objects b) + i → old ≡ old_start (objects b) + i → be_at (converted b) at w ≡ be_at b old w
  unfolding be_at
  number_kept at old i w e f = ap be_of (section_kept at old i w e f)

  length_kept : (n : ℕ) → name_length (converted b) n ≡ old_name_length b n
  unfolding name_length
  length_kept n = rw objects_kept (number_kept _ _ (4 + name_record_length * n + length_offset) 4 (omega arith) (omega arith))

  name_kept : (n : ℕ) → name_at (converted b) n ≡ old_name_at b n
  unfolding name_at name_from name_length
  name_kept n =
      let at = names_head + object_length * objects b + name_record_length * n in
      let old = old_name_start b n in
      let i = 4 + name_record_length * n in
      let long : be_at (converted b) (at + length_offset) 4 ≡ old_name_length b n = rw objects_kept at (length_kept n) in
      rw objects_kept (λ j. record {
        directory = number_kept at old i 4 (omega arith) (omega arith) j;
        child = number_kept (at + child_offset) (old + child_offset) (i + child_offset) 4 (omega arith) (omega arith) j;
        text = (ap (part (converted b) (at + text_offset)) long
            ∙ section_kept (at + text_offset) (old + text_offset) (i + text_offset) (old_name_length b n) (omega arith) (omega arith)) j;
      })

  blocks_kept : blocks (converted b) ≡ old_blocks b
  unfolding blocks old_blocks
  blocks_kept =
      rw (objects_kept, names_kept) (number_kept _ _ (4 + name_record_length * old_names b) 4 (omega arith) (omega arith))

  converted_length : length b ≡ old_length (objects b) (old_names b) (old_blocks b)
      → length (converted b) ≡ image_length (objects b) (old_names b) (old_blocks b)
  unfolding converted front
  converted_length e = length-append front (drop (old_start (objects b)) b) ∙ rw (front_length, length-drop) (omega arith)

  -- ---- its records
  module _ (o : ℕ) (l : o < objects b) where
    old_part : part (converted b) (object_start o) old_object_length ≡ part b (old_start o) old_object_length
    unfolding record_bytes
    old_part =
        let n : length (part b (old_start o) old_object_length) ≡ old_object_length = part_length b (old_start o) old_object_length (omega arith) in
        ap (λ (q : ℕ). part (converted b) q old_object_length) (sym (add-zero (object_start o)))
        ∙ sym (part_part (converted b) (object_start o) object_length 0 old_object_length (lit≤ tt))
        ∙ ap (λ (x : List ℕ). part x 0 old_object_length) (in_record o l)
        ∙ part_left (part b (old_start o) old_object_length) (zeros (object_length - old_object_length)) 0 old_object_length (omega arith)
        ∙ part_whole (part b (old_start o) old_object_length) old_object_length n

    new_part : part (converted b) (object_start o + old_object_length) (object_length - old_object_length) ≡ zeros (object_length - old_object_length)
    unfolding record_bytes
    new_part =
        let n : length (part b (old_start o) old_object_length) ≡ old_object_length = part_length b (old_start o) old_object_length (omega arith) in
        sym (part_part (converted b) (object_start o) object_length old_object_length (object_length - old_object_length) (lit≤ tt))
        ∙ ap (λ (x : List ℕ). part x old_object_length (object_length - old_object_length)) (in_record o l)
        ∙ part_right (part b (old_start o) old_object_length) (zeros (object_length - old_object_length)) old_object_length 0 (object_length - old_object_length) n
        ∙ part_whole (zeros (object_length - old_object_length)) (object_length - old_object_length) refl

    field_kept : (i w : ℕ) → i + w ≤ old_object_length → be_at (converted b) (object_start o + i) w ≡ be_at b (old_start o + i) w
    field_kept i w m =
        sym (be_part (converted b) (object_start o) old_object_length i w m) ∙ ap (λ (x : List ℕ). be_at x i w) old_part
        ∙ be_part b (old_start o) old_object_length i w m

    time_kept : (i : ℕ) → i + 8 ≤ old_object_length → time_at (converted b) (object_start o + i) ≡ time_at b (old_start o + i)
    unfolding time_at
    time_kept i m = cc (
      field_kept i 4 (omega arith),
      field_kept (i + nanoseconds_offset) 4 (omega arith),
      add_assoc (object_start o) i nanoseconds_offset,
      add_assoc (old_start o) i nanoseconds_offset,
    )

    halves_kept : halves_at (converted b) (object_start o + blocks_offset) file_blocks ≡ halves_at b (old_start o + blocks_offset) file_blocks
    halves_kept =
        sym (halves_part (converted b) (object_start o) old_object_length blocks_offset file_blocks (lit≤ tt))
        ∙ ap (λ (x : List ℕ). halves_at x blocks_offset file_blocks) old_part ∙ halves_part b (old_start o) old_object_length blocks_offset file_blocks (lit≤ tt)

    field_new : (i w : ℕ) → i + w ≤ object_length - old_object_length → be_at (converted b) (object_start o + (old_object_length + i)) w ≡ 0
    field_new i w m =
        ap (λ (q : ℕ). be_at (converted b) q w) (sym (add_assoc (object_start o) old_object_length i))
        ∙ be_zero (converted b) (object_start o + old_object_length + i) w
        (zero_within (converted b) (object_start o + old_object_length) (object_length - old_object_length) i w new_part m)

    object_kept : object_at (converted b) o ≡ old_object_at b o
    unfolding object_at object_from old_object_at
    object_kept =
        let first : be_at (converted b) (object_start o) 4 ≡ be_at b (old_start o) 4 = simp add-zero at (field_kept 0 4 (lit≤ tt)) in
        λ i. record {
          kind = first i;
          generation = field_kept generation_offset 4 (lit≤ tt) i;
          mode = field_kept mode_offset 4 (lit≤ tt) i;
          uid = field_kept uid_offset 4 (lit≤ tt) i;
          gid = field_kept gid_offset 4 (lit≤ tt) i;
          size = field_kept size_offset 4 (lit≤ tt) i;
          atime = time_kept atime_offset (lit≤ tt) i;
          mtime = time_kept mtime_offset (lit≤ tt) i;
          ctime = time_kept ctime_offset (lit≤ tt) i;
          blocks = halves_kept i;
          verifier = field_new 0 8 (lit≤ tt) i;
          exclusive = field_new 8 4 (lit≤ tt) i;
        }

-- ---- what an image of the old shape becomes keeps it
pub old_shaped : (b : List ℕ) → old_shape b ≡ true → OldShaped b
unfolding old_shape
old_shaped b e =
    let p = objects b in
    let q = old_names b in
    let r = old_blocks b in
    let a = and_both (eqb (volumes b) 1 && good_counts p q r) (eqb (length b) (old_length p q r)) e in
    let c = and_both (eqb (volumes b) 1) (good_counts p q r) a.0 in
    let k = counts_by p q r c.1 in
    record {
      volume = eqb-true (volumes b) 1 c.0;
      some_object = k.0;
      few_objects = k.1;
      few_names = k.2;
      few_blocks = k.3;
      exact = eqb-true (length b) (old_length p q r) a.1;
    }

old_inside : (b : List ℕ) → OldShaped b → old_start (objects b) ≤ length b
old_inside b t = omega (arith, t.exact)

not_not : (t : Bool) → not (not t) ≡ t
not_not true = refl
not_not false = refl

reach_kept : (b : List ℕ) → old_start (objects b) ≤ length b → (h : List ℕ) → reach (converted b) h ≡ old_reach b h
unfolding reach is_live
reach_kept b l h =
    rw (objects_kept b l, stamp_kept b l) (by_bool (leb (objects b) (be_at h 4 4)) (λ e. rw e)
    (λ e. rw (e, object_kept b l (be_at h 4 4) (leb-false (objects b) (be_at h 4 4) e), not_not)))

-- a second test that matters only where the first holds
and_when : (t u w : Bool) → (t ≡ true → u ≡ w) → t && u ≡ t && w
and_when true u w f = f refl
and_when false u w f = refl

-- "attributes", of a store that passes: its names name objects below P
module _ (b : List ℕ) (h : old_start (objects b) ≤ length b) (v : Valid (converted b)) where
  in_kept : (d n : ℕ) → is_in (converted b) d n ≡ not (eqb (old_name_length b n) 0) && eqb (old_name_at b n).directory d
  unfolding is_in is_used_name
  in_kept d n = rw (length_kept b h n, name_kept b h n)

  child_below : (d n : ℕ) → n < names (converted b) → is_in (converted b) d n ≡ true → (old_name_at b n).child < objects b
  unfolding is_in
  child_below d n l e =
      let u = used_true (converted b) n (and_both (is_used_name (converted b) n) _ e).0 in
      rw (name_kept b h n, objects_kept b h) at (used_of (converted b) n u (v.good_names n l)).child

  subdirectory_kept : (d n : ℕ) → n < names (converted b)
      → is_in (converted b) d n && is_directory (converted b) (name_at (converted b) n).child ≡ old_subdirectory b d n
  unfolding is_directory
  subdirectory_kept d n l =
      and_when (is_in (converted b) d n) _ (old_directory b (old_name_at b n).child)
      (λ e. rw (name_kept b h n, object_kept b h (old_name_at b n).child (child_below d n l e)))
      ∙ ap (λ (t : Bool). t && old_directory b (old_name_at b n).child) (in_kept d n)

  subdirectories_kept : (d : ℕ) → subdirectories (converted b) d ≡ count (old_names b) (old_subdirectory b d)
  unfolding subdirectories
  subdirectories_kept d =
      count_ext (names (converted b)) _ (old_subdirectory b d) (subdirectory_kept d)
      ∙ ap (λ (q : ℕ). count q (old_subdirectory b d)) (names_kept b h)

  -- a live file has one name
  one_name_lem : (o : ℕ) → o < objects b → is_named_once (converted b) o ≡ true → (old_object_at b o).kind ≢ FREE → old_directory b o ≡ false
      → namings (converted b) o ≡ 1
  unfolding is_named_once
  one_name_lem o l once live file =
      let kind = ap (λ (x : Object). x.kind) (object_kept b h o l) in
      let k : o < objects (converted b) = rw (objects_kept b h) l in
      let named = v.named.named o k
      (λ z. eqb-false (old_object_at b o).kind DIRECTORY file (sym kind ∙ rw z v.root))
      (omega (arith, kind, live)) in
      omega (arith, leb-true (namings (converted b) o) 1 once)

  links_kept : (o : ℕ) → o < objects b → is_named_once (converted b) o ≡ true → (old_object_at b o).kind ≢ FREE
      → link_count (converted b) o ≡ cond (old_directory b o) (2 + count (old_names b) (old_subdirectory b o)) 1
  unfolding link_count is_directory
  links_kept o l once live =
      by_bool (old_directory b o)
      (λ t. rw (object_kept b h o l, t, subdirectories_kept o))
      (λ t. rw (object_kept b h o l, t) (one_name_lem o l once live t))

  pub attributes_kept : (o : ℕ) → o < objects b → is_named_once (converted b) o ≡ true → (old_object_at b o).kind ≢ FREE
      → attributes (converted b) o ≡ old_attributes b o
  unfolding attributes size_attribute used_bytes is_directory size_of
  attributes_kept o l once live = rw (links_kept o l once live, used_bytes, size_of, object_kept b h o l, stamp_kept b h)

pub keeps : (b : List ℕ) → OldShaped b → Keeps b (converted b)
unfolding handle_of byte_at
keeps b t =
    let h = old_inside b t in
    let p = objects_kept b h in
    let q = names_kept b h in
    record {
      each_object = object_kept b h;
      before_records = in_head b h 0 objects_head (lit≤ tt);
      behind_records = rw p (behind b h);
      exact = converted_length b h t.exact;
      same_stamp = stamp_kept b h;
      same_objects = p;
      same_names = q;
      same_blocks = blocks_kept b h;
      each_handle = λ o l. rw (stamp_kept b h, object_kept b h o l);
      each_reached = reach_kept b h;
      each_name = name_kept b h;
      each_byte = λ o i l. rw (p, q, object_kept b h o l) (
          ap (λ (k : ℕ). get_or (converted b) k 0) (omega arith) ∙ byte_behind b h (8 + name_record_length * old_names b + block_length *
          get_or (old_object_at b o).blocks (i / block_length) 0 + i % block_length)
          ∙ ap (λ (k : ℕ). get_or b k 0) (omega arith));
    }

-- it has the shape of a store
pub converted_shaped : (b : List ℕ) → OldShaped b → Shaped (converted b)
converted_shaped b t =
    let h = old_inside b t in
    let p = objects_kept b h in
    let q = names_kept b h in
    let r = blocks_kept b h in
    record {
      volume = volumes_kept b h ∙ t.volume;
      some_object = rw p t.some_object;
      few_objects = rw p t.few_objects;
      few_names = rw q t.few_names;
      few_blocks = rw r t.few_blocks;
      exact = rw (p, q, r) (converted_length b h t.exact);
    }

-- ---- THE CONVERTER

-- the length of the store that an old image becomes
abbrev pub new_length : List ℕ → ℕ
new_length old = image_length (objects old) (old_names old) (old_blocks old)

-- its answer for an old image and a target s, and the target after it
pub record Converts (old : List ℕ) (s : Store) (w : Written) : Type 0 where
  -- "1 for an image that fails document 01's own check in the old layout", whatever the target; "target untouched"
  pub bad : good_old old ≡ false → w ≡ record { number = 1; store = s }
  -- "then 6 for a target not of exactly the new length, target untouched"
  pub other_length : good_old old ≡ true → length s ≢ new_length old → w ≡ record { number = 6; store = s }
  -- else 0; "on 0 every byte of the target is written"
  pub done : good_old old ≡ true → length s ≡ new_length old → w ≡ record { number = 0; store = converted old }
  pub as_long : length w.store ≡ length s
  -- on 0 "every old field kept, so every handle goes on naming its object, the new fields zero"
  pub kept : w.number ≡ 0 → Keeps old w.store
  -- "the result passes"
  pub passes : w.number ≡ 0 → check w.store ≡ 0
  -- "So .. attributes .. are the same", of every live object
  pub same_attributes : w.number ≡ 0 → (o : ℕ) → o < objects old → (old_object_at old o).kind ≢ FREE → attributes w.store o ≡ old_attributes old o

module _ (old : List ℕ) (s : Store) where
  convert_bad : good_old old ≡ false → convert old s ≡ record { number = 1; store = s }
  unfolding convert
  convert_bad e = rw e

  convert_other : good_old old ≡ true → length s ≢ new_length old → convert old s ≡ record { number = 6; store = s }
  unfolding convert
  convert_other e f = rw (e, ne_eqb (length s) (new_length old) f)

  convert_done : good_old old ≡ true → length s ≡ new_length old → convert old s ≡ record { number = 0; store = converted old }
  unfolding convert
  convert_done e f = rw (e, eq-eqb (length s) (new_length old) f)

  -- what is known of what it leaves, from what holds on each of the three answers
  by_answer : (P : Written → Type 0) → P (record { number = 1; store = s }) → P (record { number = 6; store = s })
      → (good_old old ≡ true → length s ≡ new_length old → P (record { number = 0; store = converted old })) → P (convert old s)
  by_answer P bad other done =
      by_bool (good_old old)
      (λ g. by_cases (ℕ_discrete (length s) (new_length old)) (λ l. rw (convert_done g l) (done g l)) (λ l. rw (convert_other g l) other))
      (λ g. rw (convert_bad g) bad)

  old_parts : good_old old ≡ true → (OldShaped old) × (passes (converted old) ≡ true) × (every (objects old) (is_named_once (converted old)) ≡ true)
  unfolding good_old
  old_parts g =
      let a = and_both (old_shape old && passes (converted old)) (every (objects old) (is_named_once (converted old))) g in
      let b = and_both (old_shape old) (passes (converted old)) a.0 in
      (old_shaped old b.0, b.1, a.1)

  pub converts : Converts old s (convert old s)
  unfolding check
  converts =
      record {
        bad = convert_bad;
        other_length = convert_other;
        done = convert_done;
        as_long = by_answer (λ w. length w.store ≡ length s) refl refl
            (λ g l. (keeps old (old_parts g).0).exact ∙ sym l);
        kept = by_answer (λ w. w.number ≡ 0 → Keeps old w.store) (λ z. absurd (omega arith)) (λ z. absurd (omega arith))
            (λ g l z. keeps old (old_parts g).0);
        passes = by_answer (λ w. w.number ≡ 0 → check w.store ≡ 0) (λ z. absurd (omega arith)) (λ z. absurd (omega arith))
            (λ g l z. rw (old_parts g).1);
        same_attributes = by_answer
            (λ w. w.number ≡ 0 → (o : ℕ) → o < objects old → (old_object_at old o).kind ≢ FREE → attributes w.store o ≡ old_attributes old o)
            (λ z. absurd (omega arith)) (λ z. absurd (omega arith))
            (λ g l z o k. attributes_kept old (old_inside old (old_parts g).0) (valid (converted old) (old_parts g).1) o k
            (every_at (is_named_once (converted old)) (objects old) o (old_parts g).2 k));
      }
