-- The third edit: a file's contents are cut, or padded with zeros, and every other file keeps its contents. Assumes nothing.
use mathlib.Core.Path.{◌≡◌, sym, ap, ◌∙◌}
use mathlib.Core.Logic.{◌≢◌, ⊎_elim, by_cases, ◌⊎◌}
use mathlib.Core.List.{List, ◌++◌}
use Prim.Native.Nat.{ℕ, ◌+◌, ◌-◌, ◌/◌, ◌%◌, ◌≤◌, ◌<◌, min, max}
use native.Mathlib.Omega.{arith}
use native.Mathlib.Decide.{ℕ_discrete}
use native.Mathlib.Nat.{mod-lt}
use lib.Dec.{lit<}
use lib.ListN.{length, get_or, get_or-append, get_or-eq_default}
use lib.Seq.{ext_get_or, get_or-take, get_or-append-add}
use Rattle.kinds.specs.Layout.{block_length}
use Rattle.kinds.specs.Numbers.{REGULAR, most_file_bytes}
use Rattle.kinds.specs.declared.object.Object.{Object}
use Rattle.spec.specs.Bytes.{part}
use Rattle.spec.specs.Count.{times}
use Rattle.spec.specs.Edits.{clear_blocks, clear_tail, resize}
use Rattle.spec.specs.Image.{Store, objects, blocks, block_start, object_at}
use Rattle.spec.specs.Room.{size_of, need, held, free_block_count, byte_at}
use Rattle.laws.proofs.BlockLists.{InRange, range_append}
use Rattle.laws.proofs.BlockWrites.{clear_blocks_lem, clear_tail_lem}
use Rattle.laws.proofs.Bytes.{lt_or_le}
use Rattle.laws.proofs.Count.{times_append, times_at}
use Rattle.laws.proofs.FileData.{byte_at_next}
use Rattle.laws.proofs.FreeCount.{times_take}
use Rattle.laws.proofs.GoodKept.{uses_at}
use Rattle.laws.proofs.GoodRecords.{GoodRecords, live_at, resize_still}
use Rattle.laws.proofs.Kept.{RecordsKept, kept_trans}
use Rattle.laws.proofs.Resize.{kept_blocks, freed_blocks, added_blocks, resized, kept_length, added_length}
use Rattle.laws.proofs.Resize.{freed_range, added_range, added_free, resize_object, resize_size, resize_held}
use Rattle.laws.proofs.Valid.{LiveObject}
use Rattle.laws.proofs.Writes.{object_written}
use Rattle.laws_contents.specs.Contents.{contents}
use Rattle.laws_contents.specs.Written.{at_size}
use Rattle.laws_contents.proofs.Laid.{Outside, byte_same}
use Rattle.laws_contents.proofs.Sized.{sized_length, sized_byte}
use Rattle.laws_contents.proofs.Contents.{contents_length, contents_byte}
use Rattle.laws_contents.proofs.Places.{block_of, block_held, block_below, block_counted, block_one, block_other}
use Rattle.laws_contents.proofs.RecordEdits.{contents_kept}
use Rattle.laws_contents.proofs.Cleared.{clear_other, clear_zero, tail_other, tail_zero}

module _ (s : Store) (g : GoodRecords s) (o size : ℕ) (l : o < objects s) (k : (object_at s o).kind ≡ REGULAR) (small : size ≤ most_file_bytes)
    (room : need size - need (size_of s o) ≤ free_block_count s) where
  live : LiveObject (blocks s) (object_at s o)
  live = live_at s g o l (omega arith)

  -- the store with the tail zeroed, and the blocks that are zeroed after it
  abbrev tailed : Store
  tailed = clear_tail s o (min (size_of s o) size) (max (size_of s o) size)

  abbrev changed : List ℕ
  changed = freed_blocks s o size ++ added_blocks s o size

  tailed_kept : RecordsKept s tailed
  tailed_kept = clear_tail_lem s o g.sound live (min (size_of s o) size) (max (size_of s o) size) (omega arith)

  changed_range : InRange (blocks tailed) changed
  changed_range =
      rw tailed_kept.shape.blocks (range_append (blocks s) (freed_blocks s o size) (added_blocks s o size)
      (freed_range s o size g.sound l live small room) (added_range s o size g.sound l live small room))

  -- of the blocks, the edit of the record changes nothing
  resize_data : (at n : ℕ) → block_start s 0 ≤ at → part (resize s o size) at n ≡ part (clear_blocks tailed changed) at n
  unfolding resize
  resize_data at n z =
      let a = tailed_kept in
      let b = clear_blocks_lem tailed changed a.sound changed_range in
      let c = kept_trans s tailed (clear_blocks tailed changed) a b in
      let e = c.shape in
      (object_written (clear_blocks tailed changed) o (resized s o size) (omega (arith, c.sound.shaped)) (rw e.objects l)).blocks at n
      (rw (e.objects, e.names) z)

  -- a byte of a block that is neither freed nor added is as in the store with the tail zeroed
  resize_other : (r q : ℕ) → q < block_length → times r changed ≡ 0 → get_or (resize s o size) (block_start s r + q) 0 ≡ get_or tailed (block_start s r + q) 0
  resize_other r q h z =
      let e = tailed_kept.shape in
      byte_same (resize s o size) (clear_blocks tailed changed) (block_start s r + q) (resize_data (block_start s r + q) 1 (omega arith))
      ∙ (rw (e.objects, e.names) at (clear_other tailed changed tailed_kept.sound changed_range r q h z))

  -- a byte of a block that is freed or added is zero
  resize_zero : (r q : ℕ) → q < block_length → 0 < times r changed → get_or (resize s o size) (block_start s r + q) 0 ≡ 0
  resize_zero r q h z =
      let e = tailed_kept.shape in
      byte_same (resize s o size) (clear_blocks tailed changed) (block_start s r + q) (resize_data (block_start s r + q) 1 (omega arith))
      ∙ (rw (e.objects, e.names) at (clear_zero tailed changed tailed_kept.sound changed_range r q h z))

  -- a block in use that is not freed is not added
  unchanged : (r : ℕ) → r < blocks s → 0 < times r (held s o) → times r (freed_blocks s o size) ≡ 0 → times r changed ≡ 0
  unchanged r b u f =
      omega (
        arith,
        times_append r (freed_blocks s o size) (added_blocks s o size),
        added_free s o size g.sound l live small room g.used_once r b,
        uses_at s o l r,
      )

  -- the block of the tail's start is the file's
  start_last : (start : ℕ) → start ≤ size_of s o → 0 < start % block_length → block_of s o start ≡ block_of s o (start - 1)
  start_last start h p = let e : start / block_length ≡ (start - 1) / block_length = omega arith in rw e

  start_fits : (start : ℕ) → start ≤ size_of s o → 0 < start % block_length → byte_at s o start + (block_length - start % block_length) ≤ length s
  unfolding byte_at
  start_fits start h p =
      let b = block_below s g o l (start - 1) (omega arith) in
      let w = g.sound.shaped in
      omega (arith, start_last start h p)

  -- a byte of another block lies before or after the tail
  start_apart : (start r q : ℕ) → block_of s o start ≢ r → q < block_length → Outside (byte_at s o start) (block_length - start % block_length) (block_start s r + q)
  unfolding byte_at
  start_apart start r q d h =
      let b = block_of s o start in
      ⊎_elim (λ (y : r < b). ◌⊎◌.inl (omega arith)) (λ (y : b ≤ r). ◌⊎◌.inr (omega arith)) (lt_or_le r b)

  -- every other file keeps its contents
  pub resize_others : (p : ℕ) → p < objects s → p ≢ o → contents (resize s o size) p ≡ contents s p
  unfolding byte_at
  resize_others p m d =
      let t = resize s o size in
      let start = min (size_of s o) size in
      let e = resize_object s o size g.sound l live small room in
      let q = e.other_objects p m d in
      contents_kept s t e.shape p (ap (λ (x : Object). x.size) q) (ap (λ (x : Object). x.blocks) q) (λ i h.
      let r = block_of s p i in
      let b = block_below s g p m i h in
      resize_other r (i % block_length) (mod-lt i (lit< tt)) (omega (
        arith,
        times_append r (freed_blocks s o size) (added_blocks s o size),
        block_other s g o p i l m d h,
        times_take r (need size) (held s o),
        added_free s o size g.sound l live small room g.used_once r b,
        uses_at s p m r,
        block_counted s g p m i h,
      ))
      ∙ tail_other s o start (max (size_of s o) size) (byte_at s p i) (start_fits start (omega arith)) (λ z.
      start_apart start r (i % block_length) (λ y.
      d (sym (block_one s g o p (start - 1) i l m (omega arith) h (sym (start_last start (omega arith) z) ∙ y)).0)) (mod-lt i (lit< tt))))

  -- ---- the file itself
  good : GoodRecords (resize s o size)
  good = (resize_still s g o size l k small room).good

  size_is : size_of (resize s o size) o ≡ size
  size_is = resize_size s o size g.sound l live small room

  -- the block of a byte after the edit
  new_block : (i : ℕ) → i < size → block_of (resize s o size) o i ≡ get_or (kept_blocks s o size ++ added_blocks s o size) (i / block_length) 0
  new_block i h =
      let t = resize s o size in
      let e = (resize_object s o size g.sound l live small room).shape in
      sym (block_held t good o (rw e.objects l) i (rw size_is h)).1
      ∙ ap (λ (z : List ℕ). get_or z (i / block_length) 0) (resize_held s o size g.sound l live small room)

  old_index : (i : ℕ) → i / block_length < need (size_of s o) → get_or (held s o) (i / block_length) 0 ≡ block_of s o i
  unfolding held
  old_index i h = get_or-take (need (size_of s o)) (object_at s o).blocks (i / block_length) 0 h

  kept_index : (i : ℕ) → i < size → i / block_length < need (size_of s o) → get_or (kept_blocks s o size) (i / block_length) 0 ≡ block_of s o i
  kept_index i h b = get_or-take (need size) (held s o) (i / block_length) 0 (omega arith) ∙ old_index i b

  -- where the file had a block, it keeps it
  kept_block : (i : ℕ) → i < size → i / block_length < need (size_of s o) → block_of (resize s o size) o i ≡ block_of s o i
  kept_block i h b =
      new_block i h
      ∙ get_or-append (kept_blocks s o size) (added_blocks s o size) 0 (i / block_length) (omega (arith, kept_length s o size g.sound l live small room))
      ∙ kept_index i h b

  -- and that block is neither freed nor added
  kept_unchanged : (i : ℕ) → i < size → i / block_length < need (size_of s o) → block_of s o i < blocks s → times (block_of s o i) changed ≡ 0
  kept_unchanged i h b c =
      let r = block_of s o i in
      let a = times_at r 0 (kept_blocks s o size) (i / block_length) (omega (arith, kept_length s o size g.sound l live small room)) (kept_index i h b) in
      let w = times_take r (need size) (held s o) in
      unchanged r c (omega arith) (omega (arith, uses_at s o l r, g.used_once r c))

  -- a byte within both sizes stays
  byte_kept : (i : ℕ) → i < size_of s o → i < size → get_or (resize s o size) (byte_at s o i) 0 ≡ get_or s (byte_at s o i) 0
  unfolding byte_at
  byte_kept i h j =
      let start = min (size_of s o) size in
      let r = block_of s o i in
      resize_other r (i % block_length) (mod-lt i (lit< tt)) (kept_unchanged i j (omega arith) (block_below s g o l i h))
      ∙ tail_other s o start (max (size_of s o) size) (byte_at s o i) (start_fits start (omega arith)) (λ z.
      by_cases (ℕ_discrete (block_of s o start) r)
      (λ e. let q = (block_one s g o o (start - 1) i l l (omega arith) h (sym (start_last start (omega arith) z) ∙ e)).1 in ◌⊎◌.inl (omega arith))
      (λ n. start_apart start r (i % block_length) n (mod-lt i (lit< tt))))

  -- a byte after the old end, in the file's last block, is zero
  byte_tail : (i : ℕ) → size_of s o ≤ i → i < size → i / block_length < need (size_of s o) → get_or (resize s o size) (byte_at s o i) 0 ≡ 0
  unfolding byte_at
  byte_tail i h j b =
      let old = size_of s o in
      let x : min old size ≡ old = omega arith in
      let y : max old size ≡ size = omega arith in
      let p : 0 < old % block_length = omega arith in
      let e : i ≡ old + (i - old) = omega arith in
      let last : i / block_length ≡ (old - 1) / block_length = omega arith in
      let c : block_of s o i < blocks s = rw last (block_below s g o l (old - 1) (omega arith)) in
      resize_other (block_of s o i) (i % block_length) (mod-lt i (lit< tt)) (kept_unchanged i j b c)
      ∙ ap (λ (q : ℕ). get_or tailed q 0) (ap (byte_at s o) e ∙ byte_at_next s o old (i - old) (omega arith))
      ∙ rw (x, y) (tail_zero s o old size (i - old) p (start_fits old (omega arith) p) (omega arith) (omega arith))

  -- a byte in a block that is added is zero
  byte_added : (i : ℕ) → need (size_of s o) ≤ i / block_length → i < size
      → get_or (resize s o size) (block_start s (block_of (resize s o size) o i) + i % block_length) 0 ≡ 0
  byte_added i h j =
      let a = kept_length s o size g.sound l live small room in
      let n = i / block_length - need (size_of s o) in
      let r = block_of (resize s o size) o i in
      let e : i / block_length ≡ length (kept_blocks s o size) + n = omega arith in
      let q : get_or (added_blocks s o size) n 0 ≡ r =
      sym (new_block i j ∙ ap (λ (z : ℕ). get_or (kept_blocks s o size ++ added_blocks s o size) z 0) e
      ∙ get_or-append-add (kept_blocks s o size) (added_blocks s o size) n 0) in
      let w = times_at r 0 (added_blocks s o size) n (omega (arith, added_length s o size g.sound l live small room)) q in
      resize_zero r (i % block_length) (mod-lt i (lit< tt)) (omega (arith, times_append r (freed_blocks s o size) (added_blocks s o size)))

  -- THIRD EDIT: the contents are the old ones, cut to the new size or padded with zeros up to it
  pub resize_contents : contents (resize s o size) o ≡ at_size (contents s o) size
  unfolding byte_at
  resize_contents =
      let t = resize s o size in
      let old = contents s o in
      let c = contents_length s o in
      let e = (resize_object s o size g.sound l live small room).shape in
      let place : (i : ℕ) → i < size → i / block_length < need (size_of s o) → byte_at t o i ≡ byte_at s o i =
      λ i h b. rw (e.objects, e.names, kept_block i h b) in
      ext_get_or 0 (contents t o) (at_size old size) (contents_length t o ∙ size_is ∙ sym (sized_length old size)) (λ i h.
      let j : i < size = omega (arith, contents_length t o, size_is) in
      contents_byte t o i (omega (arith, size_is))
      ∙ ⊎_elim
      (λ (a : i < size_of s o). ap (λ (q : ℕ). get_or t q 0) (place i j (omega arith)) ∙ byte_kept i a j ∙ sym (contents_byte s o i a))
      (λ (a : size_of s o ≤ i). ⊎_elim
      (λ (b : i / block_length < need (size_of s o)). ap (λ (q : ℕ). get_or t q 0) (place i j b) ∙ byte_tail i a j b)
      (λ (b : need (size_of s o) ≤ i / block_length). rw (e.objects, e.names) (byte_added i b j))
      (lt_or_le (i / block_length) (need (size_of s o)))
      ∙ sym (get_or-eq_default old 0 (omega arith)))
      (lt_or_le i (size_of s o))
      ∙ sym (sized_byte old size i j))
