-- A file that gets the size that it has stays as it is. Assumes nothing.
use Prim.Native.Nat.{ℕ, ◌-◌, ◌%◌, ◌≤◌, ◌<◌, min, max, ◌+◌}
use mathlib.Core.Path.{◌≡◌, refl, sym, ap, ◌∙◌}
use mathlib.Core.Bool.{Bool, true, false, cond}
use mathlib.Core.Logic.{⊎_elim}
use mathlib.Core.List.{List, [], ◌++◌, append-nil}
use native.Mathlib.Omega.{arith}
use lib.Dec.{eqb}
use lib.ListN.{length, get_or, take, drop, length-take, drop_of_length-le}
use lib.Seq.{take-take, get_or-take, ext_get_or}
use Rattle.kinds.specs.Layout.{block_length}
use Rattle.kinds.specs.Numbers.{REGULAR, file_blocks}
use Rattle.kinds.specs.declared.object.Object.{Object}
use Rattle.spec.specs.Edits.{clear_blocks, clear_tail, block_numbers, with_size, resize}
use Rattle.spec.specs.Image.{Store, objects, object_at, put_object}
use Rattle.spec.specs.Room.{size_of, need, held, free_blocks, byte_at}
use Rattle.laws.proofs.Bytes.{lt_or_le, overlay_none}
use Rattle.laws.proofs.GoodRecords.{GoodRecords, live_at}
use Rattle.laws.proofs.Range.{Below}
use Rattle.laws.proofs.Resize.{numbers_long, numbers_held, numbers_rest}
use Rattle.laws.proofs.Valid.{LiveObject, live_size}
use Rattle.store_records.proofs.Numbered.{blocks_long}
use Rattle.edit_attributes.proofs.Kept.{object_kept}

-- the numbers that an object holds, and the number of an unused block in its other places, are all its numbers
numbers_same : (v : Object) (r : ℕ) → LiveObject r v → length v.blocks ≡ file_blocks → need v.size ≤ file_blocks
    → block_numbers (take (need v.size) v.blocks) ≡ v.blocks
numbers_same v r l k b =
    let n = need v.size in
    let rs = take n v.blocks in
    let long : length rs ≡ n = simp length-take (omega arith) in
    ext_get_or 0 (block_numbers rs) v.blocks (numbers_long rs ∙ sym k)
    (λ i h. ⊎_elim
    (λ (q : i < n). sym (get_or-take n (block_numbers rs) i 0 q) ∙ ap (λ (x : List ℕ). get_or x i 0) (numbers_held rs n long b) ∙ get_or-take n v.blocks i 0 q)
    (λ (q : n ≤ i). numbers_rest rs i (omega (arith, long)) (omega (arith, numbers_long rs)) ∙ sym (l.rest i q (omega (arith, numbers_long rs))))
    (lt_or_le i n))

either_way : (t : Bool) (s : Store) → cond t s s ≡ s
either_way true s = refl
either_way false s = refl

-- no bytes between the ends
tail_none : (s : Store) (o start end : ℕ) → end ≤ start → clear_tail s o start end ≡ s
unfolding clear_tail
tail_none s o start end h =
    let e : min (end - start) (block_length - start % block_length) ≡ 0 = omega arith in
    rw (e, overlay_none s (byte_at s o start)) (either_way (eqb (start % block_length) 0) s)

pub resize_same : (s : Store) (o : ℕ) → GoodRecords s → o < objects s → (object_at s o).kind ≡ REGULAR → Below 256 s → resize s o (size_of s o) ≡ s
unfolding resize held clear_blocks size_of with_size
resize_same s o g l k f =
    let v = object_at s o in
    let n = need v.size in
    let live = live_at s g o l (omega (arith, k)) in
    let small = live_size _ v live in
    let long = blocks_long s o in
    let w = g.sound.shaped in
    let tail : clear_tail s o (min v.size v.size) (max v.size v.size) ≡ s = tail_none s o _ _ (omega arith) in
    let freed : drop n (take n v.blocks) ≡ [] = drop_of_length-le (take n v.blocks) {i = n} (simp length-take (omega arith)) in
    let none : n - n ≡ 0 = omega arith in
    let added : take (n - n) (free_blocks s) ≡ [] = ap (λ (i : ℕ). take i (free_blocks s)) none in
    let kept : take n (take n v.blocks) ++ [] ≡ take n v.blocks = append-nil (take n (take n v.blocks)) ∙ take-take n n v.blocks (omega arith) in
    let numbers = ap block_numbers kept ∙ numbers_same v _ live long (omega (arith, small)) in
    rw (tail, freed, added)
    (ap (put_object s o)
    (λ i. record {
      kind = v.kind;
      generation = v.generation;
      mode = v.mode;
      uid = v.uid;
      gid = v.gid;
      size = v.size;
      atime = v.atime;
      mtime = v.mtime;
      ctime = v.ctime;
      blocks = numbers i;
      verifier = v.verifier;
      exclusive = v.exclusive;
    })
    ∙ object_kept s o f (omega arith))
