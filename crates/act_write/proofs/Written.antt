-- What the edit of WRITE asks and leaves between its steps. Assumes nothing.
use Prim.Native.Nat.{ℕ, ◌+◌, ◌≤◌, ◌<◌}
use mathlib.Core.Path.{◌≡◌, ap, ◌∙◌}
use mathlib.Core.Logic.{◌≢◌}
use mathlib.Core.List.{List}
use native.Mathlib.Omega.{arith}
use native.Mathlib.Nat.{add-zero}
use borrow.Author.Tests.{ne_eqb}
use lib.ListN.{length, take}
use Rattle.kinds.specs.Numbers.{most_file_bytes}
use Rattle.kinds.specs.Layout.{object_length}
use Rattle.kinds.specs.declared.object.Context.{Context}
use Rattle.kinds.specs.declared.call.Part.{Part}
use Rattle.spec.specs.Bytes.{part}
use Rattle.spec.specs.Handles.{change}
use Rattle.spec.specs.Image.{Store, objects, object_start}
use Rattle.spec.specs.Procedures.{cut}
use Rattle.spec.specs.Procedures.Data.{grown, write_edit, write_store, write_done}
use Rattle.spec.specs.Edits.{resize, write_file}
use Rattle.spec.specs.Room.{size_of}
use Rattle.spec.specs.Results.{wrote}
use Rattle.laws.proofs.Bytes.{part_length, part_part}
use Rattle.laws.proofs.GoodRecords.{GoodRecords, StillGood, still_trans, live_at, resize_still, write_file_still}
use Rattle.laws.proofs.Range.{Below}
use Rattle.laws.proofs.Resize.{resize_size, resize_tree}
use Rattle.laws.proofs.Shape.{SameShape}
use Rattle.laws.proofs.Valid.{Live}
use Rattle.results.specs.Writable.{Showable}
use Rattle.store_records.proofs.Good.{size_few}
use Rattle.act_write.specs.MayWrite.{MayWrite}

-- an object's attributes can be written from the store that an edit leaves
pub left_showable : (s t u : Store) (o : ℕ) → StillGood s u → t ≡ u → o < objects s → Showable t o
left_showable s t u o h e l = rw e (record { good = h.good; object = rw h.shape.objects l })

-- the record of an object lies in a store of the same shape
pub record_inside : (s t : Store) (o : ℕ) → GoodRecords s → SameShape s t → o < objects s → object_start o + object_length ≤ length t
record_inside s t o g h l = let w = g.sound.shaped in omega arith

-- ---- the bytes that WRITE moves
pub moved_bytes : (call : List ℕ) (p : Part) (n : ℕ) → n ≤ p.length → take n (cut call p) ≡ part call p.start n
unfolding part
moved_bytes call p n h = part_part call p.start p.length 0 n (omega arith) ∙ ap (λ (i : ℕ). part call i n) (add-zero p.start)

module _ (s : Store) (c : Context) (o offset : ℕ) (xs : List ℕ) where
  -- "n = 0 succeeds and changes nothing"
  pub no_bytes : length xs ≡ 0 → write_done s c o offset xs ≡ record { result = wrote (change s s o) 0 c.verifier; store = s }
  unfolding write_done write_store
  no_bytes e = rw e

  pub some_bytes : (n : ℕ) → length xs ≡ n → n ≢ 0
      → write_done s c o offset xs ≡ record { result = wrote (change s (write_edit s c o offset xs) o) n c.verifier; store = write_edit s c o offset xs }
  unfolding write_done write_store
  some_bytes n e z = rw (e, ne_eqb n 0 z)

-- ---- a file that grows for the bytes, and the bytes in it
pub record Grown (s t : Store) (o offset n : ℕ) : Type 0 where
  pub still : StillGood s t
  pub below : o < objects t
  pub live : Live t o
  pub inside : offset + n ≤ size_of t o

module _ (s : Store) (o offset n : ℕ) (g : GoodRecords s) (z : MayWrite s o offset n) where
  pub grown_small : grown s o offset n ≤ most_file_bytes
  grown_small = omega (arith, size_few s g o z.below, z.fits)

  pub grown_file : (t : Store) → t ≡ resize s o (grown s o offset n) → Grown s t o offset n
  grown_file t e =
      let m = grown s o offset n in
      let u = resize s o m in
      let live = live_at s g o z.below (omega (arith, z.regular)) in
      let r = resize_still s g o m z.below z.regular grown_small z.room in
      let kind = (resize_tree s o m g.sound z.below live grown_small z.room).kind o z.below in
      let v : Grown s u o offset n = record {
        still = r;
        below = rw r.shape.objects z.below;
        live = omega (arith, kind, z.regular);
        inside = omega (arith, resize_size s o m g.sound z.below live grown_small z.room);
      } in
      rw e v

  pub written_shape : (t u : Store) (xs : List ℕ) → Grown s t o offset n → Below 256 xs → length xs ≡ n → u ≡ write_file t o offset xs → SameShape s u
  written_shape t u xs f w l e =
      rw e (still_trans s t (write_file t o offset xs) f.still
      (write_file_still t f.still.good o offset xs f.below f.live w (omega (arith, f.inside)))).shape

module _ (call : List ℕ) (p : Part) (n : ℕ) where
  pub none_moved : n ≡ 0 → length (take n (cut call p)) ≡ 0
  none_moved e = rw e

  pub moved_length : p.start + p.length ≤ length call → n ≤ p.length → length (part call p.start n) ≡ n
  moved_length h l = part_length call p.start n (omega arith)

  pub written_left : (s : Store) (c : Context) (offset o : ℕ) → n ≢ 0 → n ≤ p.length → p.start + p.length ≤ length call
      → StillGood s (write_store s c o offset (take n (cut call p))) → StillGood s (write_edit s c o offset (part call p.start n))
  unfolding write_store
  written_left s c offset o z l inside h = rw (moved_bytes call p n l, moved_length inside l, ne_eqb n 0 z) at h
