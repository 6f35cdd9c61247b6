-- A file's size as it shrinks and as it grows. Assumes nothing.
use Prim.Native.Nat.{ℕ, ◌+◌, ◌-◌, ◌≤◌, ◌<◌, min, max}
use mathlib.Core.Path.{◌≡◌, sym, ap, ap₂, ◌∙◌}
use mathlib.Core.List.{List, [], ◌++◌, append-nil}
use native.Mathlib.Omega.{arith}
use lib.ListN.{length, take, drop, replicate, length-take, length-drop, drop_of_length-le}
use lib.Seq.{take_all, take_at, length-take-le}
use Rattle.kinds.specs.Numbers.{REGULAR, file_blocks, unused_block, most_file_bytes}
use Rattle.kinds.specs.declared.object.Object.{Object}
use Rattle.spec.specs.Bytes.{part}
use Rattle.spec.specs.Edits.{clear_blocks, clear_tail, block_numbers, with_size, resize}
use Rattle.spec.specs.Image.{Store, objects, blocks, object_at, put_object}
use Rattle.spec.specs.Room.{size_of, need, held, free_blocks, free_block_count}
use Rattle.laws.proofs.BlockLists.{InRange, range_take, held_length, held_range, range_drop, free_length, free_range}
use Rattle.laws.proofs.BlockWrites.{clear_blocks_lem, clear_tail_lem}
use Rattle.laws.proofs.Bytes.{part_part}
use Rattle.laws.proofs.GoodRecords.{GoodRecords, live_at}
use Rattle.laws.proofs.Kept.{RecordsKept}
use Rattle.laws.proofs.RecordRange.{object_at_fits}
use Rattle.laws.proofs.Resize.{kept_blocks, freed_blocks, added_blocks}
use Rattle.laws.proofs.Valid.{LiveObject, live_size}
use Rattle.store_blocks.specs.Blocks.{block_list}

-- the last numbers of the first `before`
freed_part : (own : List ℕ) (before after : ℕ) → after ≤ before → drop after (take before own) ≡ part own after (before - after)
unfolding part
freed_part own before after h =
    let e : 0 + after ≡ after = omega arith in
    sym (take_all (before - after) (drop after (take before own)) (simp (length-drop, length-take) (omega arith)))
    ∙ part_part own 0 before after (before - after) (omega arith) ∙ ap (λ (k : ℕ). part own k (before - after)) e

-- the first n of a list that has as many, as an object record lists them
listed_front : (n : ℕ) (xs : List ℕ) → n ≤ length xs → take n (block_list n xs) ≡ take n xs
unfolding block_list
listed_front n xs h = take_at (take n xs) (replicate (file_blocks - length (take n xs)) unused_block) n (length-take-le n xs h)

-- the file o of `old` bytes, whose record lists the blocks `own`, gets another size; it had `before` blocks and is to have `after`
pub record Resizing (s : Store) (o size old : ℕ) (own : List ℕ) (before after : ℕ) : Type 0 where
  pub good : GoodRecords s
  pub below : o < objects s
  pub regular : (object_at s o).kind ≡ REGULAR
  pub was : old ≡ size_of s o
  pub listed : own ≡ (object_at s o).blocks
  pub had : before ≡ need old
  pub gets : after ≡ need size

pub resizing : (s : Store) (o size old : ℕ) (own : List ℕ) (before after : ℕ) → GoodRecords s → o < objects s → (object_at s o).kind ≡ REGULAR
    → old ≡ size_of s o → own ≡ (object_at s o).blocks → before ≡ need old → after ≡ need size → Resizing s o size old own before after
resizing s o size old own before after good below regular was listed had gets =
    record { good = good; below = below; regular = regular; was = was; listed = listed; had = had; gets = gets }

module _ {s : Store} {o size old : ℕ} {own : List ℕ} {before after : ℕ} (r : Resizing s o size old own before after) where
  live_record : LiveObject (blocks s) (object_at s o)
  live_record = live_at s r.good o r.below (omega (arith, r.regular))

  pub old_small : old ≤ most_file_bytes
  unfolding size_of
  old_small = rw r.was (live_size (blocks s) (object_at s o) live_record)

  own_held : take before own ≡ held s o
  unfolding held
  own_held = ap₂ (λ (n : ℕ) (xs : List ℕ). take n xs) (r.had ∙ ap need r.was) r.listed

  kept_own : kept_blocks s o size ≡ take after (take before own)
  kept_own = ap₂ (λ (n : ℕ) (xs : List ℕ). take n xs) (sym r.gets) (sym own_held)

  -- no record changes with the tail
  pub tail_kept : (start end : ℕ) (t : Store) → start ≤ old → t ≡ clear_tail s o start end → RecordsKept s t
  tail_kept start end t h e = rw e (clear_tail_lem s o r.good.sound live_record start end (omega (arith, r.was)))

  -- nor with the blocks
  record_kept : (start end : ℕ) (t u : Store) (xs : List ℕ) → start ≤ old → t ≡ clear_tail s o start end → InRange (blocks t) xs → u ≡ clear_blocks t xs
      → object_at u o ≡ object_at s o
  record_kept start end t u xs h e i f =
      let k = tail_kept start end t h e in
      let b : o < objects t = omega (arith, r.below, k.shape.objects) in
      ap (λ (x : Store). object_at x o) f ∙ (clear_blocks_lem t xs k.sound i).each_object o b ∙ k.each_object o r.below

  -- what is written, one after the other
  resized_run : (start end : ℕ) (xs ys : List ℕ) → start ≤ old → min (size_of s o) size ≡ start → max (size_of s o) size ≡ end
      → freed_blocks s o size ++ added_blocks s o size ≡ xs
      → kept_blocks s o size ++ added_blocks s o size ≡ ys → (t u z : Store) (numbers : List ℕ) → t ≡ clear_tail s o start end → InRange (blocks t) xs
      → u ≡ clear_blocks t xs → numbers ≡ block_numbers ys → z ≡ put_object u o (with_size size numbers (object_at u o)) → z ≡ resize s o size
  unfolding resize with_size
  resized_run start end xs ys l a b c d t u z numbers e i f g k =
      k ∙ ap₂ (λ (x : Store) (y : Object). put_object x o y)
      (f ∙ ap₂ clear_blocks (e ∙ sym (ap₂ (clear_tail s o) a b)) (sym c))
      (ap₂ (with_size size) (g ∙ ap block_numbers (sym d)) (record_kept start end t u xs l e i f))

  -- ---- a size that is not above the old one
  module _ (h : size ≤ old) where
    fewer : after ≤ before
    fewer = omega (arith, r.had, r.gets)

    none_added : added_blocks s o size ≡ []
    none_added =
        let e : need size - need (size_of s o) ≡ 0 = omega (arith, r.was) in
        ap (λ (n : ℕ). take n (free_blocks s)) e

    freed_own : freed_blocks s o size ≡ part own after (before - after)
    freed_own = ap₂ (λ (n : ℕ) (xs : List ℕ). drop n xs) (sym r.gets) (sym own_held) ∙ freed_part own before after fewer

    pub shrunk_range : (t : Store) → t ≡ clear_tail s o size old → InRange (blocks t) (part own after (before - after))
    shrunk_range t e =
        rw ((tail_kept size old t h e).shape.blocks, ← freed_own) (range_drop (blocks s) (need size) (held s o) (held_range s o live_record))

    pub shrunk : (t u z : Store) (numbers : List ℕ) → t ≡ clear_tail s o size old → u ≡ clear_blocks t (part own after (before - after))
        → numbers ≡ block_numbers (take after (take before own) ++ take (after - before) own) → z ≡ put_object u o (with_size size numbers (object_at u o))
        → z ≡ resize s o size
    shrunk t u z numbers e =
        let n : after - before ≡ 0 = omega (arith, fewer) in
        resized_run size old (part own after (before - after)) (take after (take before own) ++ take (after - before) own) h
        (omega (arith, r.was)) (omega (arith, r.was))
        (ap (λ (xs : List ℕ). freed_blocks s o size ++ xs) none_added ∙ append-nil (freed_blocks s o size) ∙ freed_own)
        (ap₂ (λ (xs ys : List ℕ). xs ++ ys) kept_own (none_added ∙ sym (ap (λ (k : ℕ). take k own) n))) t u z numbers e (shrunk_range t e)

  -- ---- a size that is not below the old one; the free blocks are listed as an object record lists them
  module _ (h : old ≤ size) (room : need size - need (size_of s o) ≤ free_block_count s) (added : List ℕ)
      (p : added ≡ block_list (after - before) (free_blocks s)) where
    none_freed : freed_blocks s o size ≡ []
    none_freed =
        let n = held_length s o (object_at_fits s o r.good.sound.bytes) (omega (arith, old_small, r.was)) in
        let l : length (held s o) ≤ need size = omega (arith, r.was) in
        drop_of_length-le (held s o) l

    added_listed : added_blocks s o size ≡ take (after - before) added
    added_listed =
        let e : need size - need (size_of s o) ≡ after - before = omega (arith, r.was, r.had, r.gets) in
        ap (λ (n : ℕ). take n (free_blocks s)) e
        ∙ sym (ap (λ (xs : List ℕ). take (after - before) xs) p ∙ listed_front (after - before) (free_blocks s) (omega (arith, free_length s)))

    added_part : added_blocks s o size ≡ part added 0 (after - before - 0)
    unfolding part
    added_part =
        let e : after - before ≡ after - before - 0 = omega arith in
        added_listed ∙ ap (λ (n : ℕ). take n added) e

    pub grown_range : (t : Store) → t ≡ clear_tail s o old size → InRange (blocks t) (part added 0 (after - before - 0))
    grown_range t e =
        rw ((tail_kept old size t (omega arith) e).shape.blocks, ← added_part)
        (range_take (blocks s) (need size - need (size_of s o)) (free_blocks s) (free_range s))

    pub grown : (t u z : Store) (numbers : List ℕ) → t ≡ clear_tail s o old size → u ≡ clear_blocks t (part added 0 (after - before - 0))
        → numbers ≡ block_numbers (take after (take before own) ++ take (after - before) added) → z ≡ put_object u o (with_size size numbers (object_at u o))
        → z ≡ resize s o size
    grown t u z numbers e =
        resized_run old size (part added 0 (after - before - 0)) (take after (take before own) ++ take (after - before) added) (omega arith)
        (omega (arith, r.was)) (omega (arith, r.was))
        (ap₂ (λ (xs ys : List ℕ). xs ++ ys) none_freed added_part)
        (ap₂ (λ (xs ys : List ℕ). xs ++ ys) kept_own added_listed) t u z numbers e (grown_range t e)
