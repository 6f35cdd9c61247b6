-- The third edit: a file's size. Its blocks after it, how often each block is used, and how many are free. Assumes nothing.
use mathlib.Core.Path.{◌≡◌, refl, sym, ap, ◌∙◌}
use mathlib.Core.Logic.{⊎_elim, ◌⊎◌}
use mathlib.Core.List.{List, ◌++◌}
use Prim.Native.Nat.{ℕ, ◌+◌, ◌-◌, ◌^◌, ◌≤◌, ◌<◌, min, max}
use native.Mathlib.Omega.{arith}
use lib.Dec.{lit<}
use lib.ListN.{length, take, drop, get_or, replicate, length-append, length-take, length-replicate, get_or-replicate, get_or-eq_default}
use lib.Seq.{take-take, take_at, get_or-take, get_or-append-add}
use Rattle.kinds.specs.Numbers.{REGULAR, most_blocks, file_blocks, unused_block, most_file_bytes}
use Rattle.kinds.specs.declared.object.Object.{Object}
use Rattle.spec.specs.Count.{times}
use Rattle.spec.specs.Edits.{clear_blocks, clear_tail, block_numbers, with_size, resize}
use Rattle.spec.specs.Image.{Store, objects, blocks, object_at}
use Rattle.spec.specs.Room.{size_of, need, held, uses, free_blocks, free_block_count}
use Rattle.laws.proofs.BlockLists.{InRange, range_append, range_take, range_drop, held_length, held_range, free_length, free_range}
use Rattle.laws.proofs.Bytes.{lt_or_le}
use Rattle.laws.proofs.BlockWrites.{clear_blocks_lem, clear_tail_lem}
use Rattle.laws.proofs.Count.{times_append}
use Rattle.laws.proofs.FreeCount.{times_take, free_or_used, free_count_set}
use Rattle.laws.proofs.GoodKept.{good_objects_set, uses_object_set}
use Rattle.laws.proofs.Kept.{Sound, ObjectSet, put_object_lem, kept_trans, kept_object}
use Rattle.laws.proofs.Range.{Below, below_append, below_take}
use Rattle.laws.proofs.RecordRange.{object_at_fits}
use Rattle.laws.proofs.Records.{FitsObject}
use Rattle.laws.proofs.Structure.{SameTree, set_tree}
use Rattle.laws.proofs.Valid.{LiveObject, GoodObjects, BlocksUsedOnce, live_size, need_few}
use Rattle.laws.proofs.WordRange.{below_same}

-- the blocks that a file of another size keeps, frees and gets
abbrev pub kept_blocks : Store → ℕ → ℕ → List ℕ
kept_blocks s o size = take (need size) (held s o)

abbrev pub freed_blocks : Store → ℕ → ℕ → List ℕ
freed_blocks s o size = drop (need size) (held s o)

abbrev pub added_blocks : Store → ℕ → ℕ → List ℕ
added_blocks s o size = take (need size - need (size_of s o)) (free_blocks s)

-- the object's record with its new size and blocks
abbrev pub resized : Store → ℕ → ℕ → Object
resized s o size = with_size size (block_numbers (kept_blocks s o size ++ added_blocks s o size)) (object_at s o)

-- numbers in range fit two bytes
range_below : (m n : ℕ) (xs : List ℕ) → m ≤ n → 0 < n → InRange m xs → Below n xs
range_below m n xs h p f k =
    ⊎_elim (λ (l : k < length xs). omega (arith, f k l)) (λ (l : length xs ≤ k). rw (get_or-eq_default xs 0 l) p) (lt_or_le k (length xs))

pub numbers_long : (rs : List ℕ) → length (block_numbers rs) ≡ file_blocks
unfolding block_numbers
numbers_long rs = simp (length-take, length-append, length-replicate) (omega arith)

pub numbers_held : (rs : List ℕ) (n : ℕ) → length rs ≡ n → n ≤ file_blocks → take n (block_numbers rs) ≡ rs
unfolding block_numbers
numbers_held rs n l h = take-take n file_blocks (rs ++ replicate file_blocks unused_block) h ∙ take_at rs (replicate file_blocks unused_block) n l

pub numbers_rest : (rs : List ℕ) (k : ℕ) → length rs ≤ k → k < file_blocks → get_or (block_numbers rs) k 0 ≡ unused_block
unfolding block_numbers
numbers_rest rs k l h =
    let j = k - length rs in
    let e : k ≡ length rs + j = omega arith in
    get_or-take file_blocks (rs ++ replicate file_blocks unused_block) k 0 h ∙ ap (λ (i : ℕ). get_or (rs ++ replicate file_blocks unused_block) i 0) e
    ∙ get_or-append-add rs (replicate file_blocks unused_block) j 0 ∙ get_or-replicate file_blocks j unused_block 0 (omega arith)

numbers_fit : (m : ℕ) (rs : List ℕ) → m ≤ most_blocks → InRange m rs → Below (2 ^ 16) (block_numbers rs)
unfolding block_numbers
numbers_fit m rs h f =
    below_take (2 ^ 16) (rs ++ replicate file_blocks unused_block) file_blocks (lit< tt)
    (below_append (2 ^ 16) rs (replicate file_blocks unused_block) (range_below m (2 ^ 16) rs (omega arith) (lit< tt) f)
    (below_same (2 ^ 16) file_blocks unused_block (lit< tt) (lit< tt)))

module _ (s : Store) (o size : ℕ) (h : Sound s) (l : o < objects s) (v : LiveObject (blocks s) (object_at s o)) (small : size ≤ most_file_bytes)
    (room : need size - need (size_of s o) ≤ free_block_count s) where
  -- ---- its blocks
  old_small : size_of s o ≤ most_file_bytes
  unfolding size_of
  old_small = live_size (blocks s) (object_at s o) v

  old_length_lem : length (held s o) ≡ need (size_of s o)
  old_length_lem = held_length s o (object_at_fits s o h.bytes) old_small

  pub kept_length : length (kept_blocks s o size) ≡ min (need size) (need (size_of s o))
  kept_length = rw (length-take (need size) (held s o), old_length_lem)

  pub added_length : length (added_blocks s o size) ≡ need size - need (size_of s o)
  added_length = rw (length-take (need size - need (size_of s o)) (free_blocks s), free_length s) (omega arith)

  new_length_lem : length (kept_blocks s o size ++ added_blocks s o size) ≡ need size
  new_length_lem = rw (length-append, kept_length, added_length) (omega arith)

  pub kept_range : InRange (blocks s) (kept_blocks s o size)
  kept_range = range_take (blocks s) (need size) (held s o) (held_range s o v)

  pub freed_range : InRange (blocks s) (freed_blocks s o size)
  freed_range = range_drop (blocks s) (need size) (held s o) (held_range s o v)

  pub added_range : InRange (blocks s) (added_blocks s o size)
  added_range = range_take (blocks s) (need size - need (size_of s o)) (free_blocks s) (free_range s)

  new_range : InRange (blocks s) (kept_blocks s o size ++ added_blocks s o size)
  new_range = range_append (blocks s) (kept_blocks s o size) (added_blocks s o size) kept_range added_range

  -- ---- its record
  pub resized_fits : FitsObject (resized s o size)
  unfolding with_size
  resized_fits =
      let f = object_at_fits s o h.bytes in
      record {
        kind = f.kind;
        generation = f.generation;
        mode = f.mode;
        uid = f.uid;
        gid = f.gid;
        size = omega arith;
        atime = f.atime;
        mtime = f.mtime;
        ctime = f.ctime;
        long = numbers_long (kept_blocks s o size ++ added_blocks s o size);
        halves = numbers_fit (blocks s) (kept_blocks s o size ++ added_blocks s o size) h.shaped.few_blocks new_range;
        verifier = f.verifier;
        exclusive = f.exclusive;
      }

  pub resize_object : ObjectSet s o (resized s o size) (resize s o size)
  unfolding resize
  resize_object =
      let old = size_of s o in
      let t = clear_tail s o (min old size) (max old size) in
      let a = clear_tail_lem s o h v (min old size) (max old size) (omega arith) in
      let rs = freed_blocks s o size ++ added_blocks s o size in
      let b = clear_blocks_lem t rs a.sound (rw a.shape.blocks
      (range_append (blocks s) (freed_blocks s o size) (added_blocks s o size) freed_range added_range)) in
      let c = kept_trans s t (clear_blocks t rs) a b in
      kept_object s (clear_blocks t rs) (resize s o size) o (resized s o size) c
      (put_object_lem (clear_blocks t rs) o (resized s o size) c.sound (rw c.shape.objects l) resized_fits)

  pub resize_size : size_of (resize s o size) o ≡ size
  unfolding size_of with_size
  resize_size = ap (λ (x : Object). x.size) resize_object.object

  pub resize_held : held (resize s o size) o ≡ kept_blocks s o size ++ added_blocks s o size
  unfolding held with_size
  resize_held =
      rw (resize_size, resize_object.object) (numbers_held (kept_blocks s o size ++ added_blocks s o size) (need size) new_length_lem (need_few size small))

  pub resize_held_length : length (held (resize s o size) o) ≡ need size
  resize_held_length = ap length resize_held ∙ new_length_lem

  pub resize_held_range : InRange (blocks s) (held (resize s o size) o)
  resize_held_range = rw resize_held new_range

  -- ---- how often each block is used
  pub resize_uses : (r : ℕ) → uses (resize s o size) r + times r (freed_blocks s o size) ≡ uses s r + times r (added_blocks s o size)
  resize_uses r =
      let e = resize_object in
      let u = uses_object_set s (resize s o size) o l e.shape.objects e.other_objects r in
      omega (
        arith,
        times_take r (need size) (held s o),
        ap (times r) resize_held ∙ times_append r (kept_blocks s o size) (added_blocks s o size),
      )

  -- a block that is added was free, and is added once
  pub added_free : BlocksUsedOnce s → (r : ℕ) → r < blocks s → times r (added_blocks s o size) + uses s r ≤ 1
  added_free once r k =
      omega (arith, free_or_used s r k (once r k), times_take r (need size - need (size_of s o)) (free_blocks s))

  pub resize_blocks : BlocksUsedOnce s → BlocksUsedOnce (resize s o size)
  resize_blocks once r k =
      let j : r < blocks s = rw resize_object.shape.blocks at k in
      omega (arith, resize_uses r, added_free once r j, once r j)

  pub resize_other : (r : ℕ) → times r (freed_blocks s o size) ≡ 0 → times r (added_blocks s o size) ≡ 0 → uses (resize s o size) r ≡ uses s r
  resize_other r a b = omega (arith, resize_uses r)

  -- ---- how many blocks are free
  pub resize_free_count : BlocksUsedOnce s → free_block_count (resize s o size) + need size ≡ free_block_count s + need (size_of s o)
  resize_free_count once =
      let e = resize_object in
      let t = resize s o size in
      omega (
        arith,
        free_count_set s t o once (resize_blocks once) e.shape.blocks (uses_object_set s t o l e.shape.objects e.other_objects)
            (held_range s o v) resize_held_range,
        resize_held_length,
        old_length_lem,
      )

  -- ---- the demands of the check
  pub resized_live : (object_at s o).kind ≡ REGULAR → LiveObject (blocks s) (resized s o size)
  unfolding with_size
  resized_live k =
      let rs = kept_blocks s o size ++ added_blocks s o size in
      record {
        generation = v.generation;
        mode = v.mode;
        atime = v.atime;
        mtime = v.mtime;
        ctime = v.ctime;
        size = ◌⊎◌.inl (k, small);
        verifier = v.verifier;
        held = λ i (b : i < need size). let e = numbers_held rs (need size) new_length_lem (need_few size small) in
            rw (sym (get_or-take (need size) (block_numbers rs) i 0 b) ∙ ap (λ (x : List ℕ). get_or x i 0) e) (new_range i (omega (arith, new_length_lem)));
        rest = λ i a b. numbers_rest rs i (omega (arith, new_length_lem)) b;
      }

  pub resize_objects : (object_at s o).kind ≡ REGULAR → GoodObjects s → GoodObjects (resize s o size)
  resize_objects k =
      let e = resize_object in
      good_objects_set s (resize s o size) o (resized s o size) e.shape e.object e.other_objects (◌⊎◌.inr (resized_live k))

  -- names, types and generations stay
  pub resize_tree : SameTree s (resize s o size)
  unfolding with_size
  resize_tree = set_tree s (resize s o size) o (resized s o size) resize_object refl refl
