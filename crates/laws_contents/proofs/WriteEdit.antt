-- The edit of WRITE, as the contents of files show it. Assumes nothing.
use mathlib.Core.Path.{◌≡◌, refl, sym, ap, ◌∙◌}
use mathlib.Core.Logic.{◌≢◌}
use mathlib.Core.List.{List}
use Prim.Native.Nat.{ℕ, ◌+◌, ◌-◌, ◌≤◌, ◌<◌}
use native.Mathlib.Omega.{arith}
use lib.Dec.{eqb}
use lib.ListN.{length}
use borrow.Author.Tests.{eqb-true, eqb-false}
use Rattle.kinds.specs.Numbers.{REGULAR, most_file_bytes}
use Rattle.kinds.specs.declared.object.Context.{Context}
use Rattle.spec.specs.Bytes.{overlay}
use Rattle.spec.specs.Edits.{set_attributes, mtime_and_ctime, resize, write_file}
use Rattle.spec.specs.Image.{Store, objects, object_at}
use Rattle.spec.specs.Procedures.Data.{grown, write_edit, write_store}
use Rattle.spec.specs.Room.{size_of, need, free_block_count}
use Rattle.laws.proofs.ActGood.{write_edit_lem}
use Rattle.laws.proofs.Count.{by_bool}
use Rattle.laws.proofs.FreeRoom.{good_size_small}
use Rattle.laws.proofs.GoodRecords.{GoodRecords, StillGood, GoodClock, live_at, resize_still, write_file_still}
use Rattle.laws.proofs.Range.{Below}
use Rattle.laws.proofs.Records.{FitsTime}
use Rattle.laws.proofs.Resize.{resize_size, resize_tree, resize_free_count}
use Rattle.laws.proofs.SetAttributes.{set_attributes_structure, mtime_and_ctime_fits}
use Rattle.laws.proofs.Structure.{size_of_same, free_block_count_same}
use Rattle.laws.proofs.Valid.{Live}
use Rattle.laws_contents.specs.Contents.{contents}
use Rattle.laws_contents.specs.Written.{laid, written}
use Rattle.laws_contents.proofs.Contents.{contents_length}
use Rattle.laws_contents.proofs.Written.{laid_overlay, written_none, written_some}
use Rattle.laws_contents.proofs.WriteFile.{write_structure, write_contents, write_others}
use Rattle.laws_contents.proofs.RecordEdits.{set_attributes_contents}
use Rattle.laws_contents.proofs.Resize.{resize_contents, resize_others}

-- s became t by writes of file o: it has the contents `new`, every other file its own, types stay, and what room t lacks o's size took
pub record WroteOne (s : Store) (o : ℕ) (new : List ℕ) (t : Store) : Type 0 where
  pub still : StillGood s t
  pub kind : (p : ℕ) → p < objects s → (object_at t p).kind ≡ (object_at s p).kind
  pub own : contents t o ≡ new
  pub others : (p : ℕ) → p < objects s → p ≢ o → contents t p ≡ contents s p
  pub room : free_block_count t + need (size_of t o) ≡ free_block_count s + need (size_of s o)

module _ (s : Store) (g : GoodRecords s) (c : Context) (clock : FitsTime c.clock) (o offset : ℕ) (xs : List ℕ) (l : o < objects s)
    (k : (object_at s o).kind ≡ REGULAR) (b : Below 256 xs) (fits : offset + length xs ≤ most_file_bytes)
    (room : need (grown s o offset (length xs)) - need (size_of s o) ≤ free_block_count s) where
  -- the store after each step but the last
  abbrev size : ℕ
  size = grown s o offset (length xs)

  abbrev longer : Store
  longer = resize s o size

  abbrev filled : Store
  filled = write_file longer o offset xs

  small : size ≤ most_file_bytes
  small = omega (arith, good_size_small s o (g.good_objects o l))

  longer_still : StillGood s longer
  longer_still = resize_still s g o size l k small room

  longer_below : o < objects longer
  longer_below = rw longer_still.shape.objects l

  live : Live s o
  live = omega arith

  longer_live : Live longer o
  longer_live = omega (arith, (resize_tree s o size g.sound l (live_at s g o l live) small room).kind o l)

  inside : offset + length xs ≤ size_of longer o
  inside = omega (arith, resize_size s o size g.sound l (live_at s g o l live) small room)

  filled_still : StillGood longer filled
  filled_still = write_file_still longer longer_still.good o offset xs longer_below longer_live b inside

  -- times are in no file's contents
  touched : (p : ℕ) → p < objects s → contents (write_edit s c o offset xs) p ≡ contents filled p
  unfolding write_edit
  touched p m =
      let e = longer_still.shape in
      let f = filled_still.shape in
      set_attributes_contents filled c.clock o mtime_and_ctime filled_still.good.sound (rw f.objects longer_below) clock mtime_and_ctime_fits p
      (rw (f.objects, e.objects) m)

  -- the file's contents are the old ones with the bytes laid over, a gap before them zero
  pub write_edit_laid : contents (write_edit s c o offset xs) o ≡ laid (contents s o) offset xs
  write_edit_laid =
      touched o l
      ∙ write_contents longer longer_still.good o offset xs longer_below longer_live b inside
      ∙ ap (λ (z : List ℕ). overlay z offset xs) (resize_contents s g o size l k small room)
      ∙ (rw (contents_length s o) at (laid_overlay (contents s o) offset xs))

  -- every other file keeps its contents
  pub write_edit_others : (p : ℕ) → p < objects s → p ≢ o → contents (write_edit s c o offset xs) p ≡ contents s p
  write_edit_others p m d =
      touched p m
      ∙ write_others longer longer_still.good o offset xs longer_below longer_live b inside p (rw longer_still.shape.objects m) d
      ∙ resize_others s g o size l k small room p m d

  -- where there are bytes to write, as there are wherever WRITE makes this edit
  pub write_edit_written : 0 < length xs → contents (write_edit s c o offset xs) o ≡ written (contents s o) offset xs
  write_edit_written p = write_edit_laid ∙ sym (written_some (contents s o) offset xs (λ e. omega arith))

  -- and so all of it, with a clock as the entries accept it
  pub write_edit_wrote : GoodClock c.clock → 0 < length xs → WroteOne s o (written (contents s o) offset xs) (write_edit s c o offset xs)
  unfolding write_edit
  write_edit_wrote good some =
      let t = set_attributes filled c.clock o mtime_and_ctime in
      let lo = live_at s g o l live in
      let e₁ = resize_tree s o size g.sound l lo small room in
      let e₂ = write_structure longer longer_still.good o offset xs longer_below longer_live b inside in
      let l₂ : o < objects filled = rw filled_still.shape.objects longer_below in
      let f = filled_still.shape in
      let same : (p : ℕ) → p < objects s → (object_at filled p).kind ≡ (object_at s p).kind = λ p m.
      e₂.tree.kind p (rw longer_still.shape.objects m) ∙ e₁.kind p m in
      let k₂ = same o l in
      let e₃ = set_attributes_structure filled c.clock o mtime_and_ctime filled_still.good.sound l₂ clock mtime_and_ctime_fits in
      let z = size_of_same filled t e₃ o l₂ ∙ size_of_same longer filled e₂ o longer_below ∙ resize_size s o size g.sound l lo small room in
      record {
        still = write_edit_lem s g c good o offset xs l k b fits room;
        kind = λ p m. e₃.tree.kind p (rw (f.objects, longer_still.shape.objects) m) ∙ same p m;
        own = write_edit_written some;
        others = write_edit_others;
        room = rw z (omega (
          arith,
          free_block_count_same filled t e₃,
          free_block_count_same longer filled e₂,
          resize_free_count s o size g.sound l lo small room g.used_once,
        ));
      }

-- WRITE's edit, of any bytes: "n = 0 succeeds and changes nothing"
module _ (s : Store) (g : GoodRecords s) (c : Context) (clock : FitsTime c.clock) (o offset : ℕ) (xs : List ℕ) (l : o < objects s)
    (k : (object_at s o).kind ≡ REGULAR) (b : Below 256 xs) (fits : 0 < length xs → offset + length xs ≤ most_file_bytes)
    (room : 0 < length xs → need (grown s o offset (length xs)) - need (size_of s o) ≤ free_block_count s) where
  -- the file's contents are written
  pub write_store_written : contents (write_store s c o offset xs) o ≡ written (contents s o) offset xs
  unfolding write_store
  write_store_written =
      by_bool (eqb (length xs) 0)
      (λ e. rw e (sym (written_none (contents s o) offset xs (eqb-true (length xs) 0 e))))
      (λ e. let p : 0 < length xs = omega (arith, eqb-false (length xs) 0 e) in
      rw e (write_edit_written s g c clock o offset xs l k b (fits p) (room p) p))

  -- every other file keeps its contents
  pub write_store_others : (p : ℕ) → p < objects s → p ≢ o → contents (write_store s c o offset xs) p ≡ contents s p
  unfolding write_store
  write_store_others p m d =
      by_bool (eqb (length xs) 0)
      (λ e. rw e refl)
      (λ e. let q : 0 < length xs = omega (arith, eqb-false (length xs) 0 e) in
      rw e (write_edit_others s g c clock o offset xs l k b (fits q) (room q) p m d))
