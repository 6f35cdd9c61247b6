-- What the edit of CREATE and MKDIR leaves between its steps. Assumes nothing.
use Rattle.std.specs.Prelude.{Option, Some, None}
use Prim.Native.Nat.{ℕ}
use mathlib.Core.Path.{◌≡◌, refl, ap, ◌∙◌}
use mathlib.Core.List.{List}
use native.Mathlib.Omega.{arith}
use Rattle.kinds.specs.Numbers.{DIRECTORY}
use Rattle.kinds.specs.declared.object.Object.{Object}
use Rattle.kinds.specs.declared.object.Context.{Context}
use Rattle.spec.specs.Edits.{mtime_and_ctime, resize, with_generation, create_object}
use Rattle.spec.specs.Image.{Store, blocks, object_at}
use Rattle.spec.specs.Procedures.Attributes.{resize_to}
use Rattle.spec.specs.Procedures.Names.{new_edit, existing_edit}
use Rattle.spec.specs.Room.{uses, size_of, free_block_count}
use Rattle.laws.proofs.CreateObject.{create_object_lem, create_object_uses}
use Rattle.laws.proofs.GoodRecords.{GoodRecords, StillGood, GoodClock, still_refl, still_trans, free_size, set_attributes_still}
use Rattle.laws.proofs.GoodRecords.{resize_still, create_object_still}
use Rattle.laws.proofs.Kept.{BothSet}
use Rattle.laws.proofs.PutName.{new_name}
use Rattle.laws.proofs.Range.{Below}
use Rattle.laws.proofs.SameReads.{is_free_block_reads, free_block_count_reads}
use Rattle.laws.proofs.SetAttributes.{mtime_and_ctime_fits, mtime_and_ctime_allowed}
use Rattle.store_blocks.specs.Blocks.{UsedMap}
use Rattle.act_change.specs.Makable.{Sizable, Makable}
use Rattle.act_change.proofs.Edited.{sized_still, sized_kind}

module _ (s : Store) (c : Context) (v : Object) (x : Option ℕ) (o n d : ℕ) (text : List ℕ) (g : GoodRecords s) (m : Makable s c v x o n d text)
    (w : Below 256 text) where
  -- the store with the object in it, before it gets its size
  abbrev created : Store
  created = create_object s o n v d text

  pub created_still : StillGood s (create_object s o n v d text)
  created_still =
      let r = m.room in
      let f = m.fresh in
      create_object_still s g o n v d text r.object_below r.object_free r.generation_low r.name_below f.fits (f.live (blocks s)) f.empty
      m.below m.directory m.good w

  created_set : BothSet s o (with_generation (object_at s o).generation v) n (new_name o d text) created
  created_set =
      let z = g.sound.shaped in
      create_object_lem s o n v d text g.sound m.room.object_below m.room.name_below m.fresh.fits (omega (arith, m.below)) m.good.short w

  -- no block is used that was not, and none is free that was not
  created_uses : (q : ℕ) → uses created q ≡ uses s q
  created_uses q =
      let r = m.room in
      let z = g.sound.shaped in
      create_object_uses s o n v d text g.sound r.object_below r.name_below m.fresh.fits (omega (arith, m.below)) m.good.short w
      (free_size s g o r.object_below r.object_free) m.fresh.empty q

  pub created_map : (used : List ℕ) → UsedMap s used → UsedMap (create_object s o n v d text) used
  created_map used u =
      record { used = λ r l. rw (is_free_block_reads s created r (created_uses r)) (u.used r (rw created_set.shape.blocks at l)) }

  pub created_sizable : Sizable (create_object s o n v d text) o x
  unfolding with_generation size_of
  created_sizable =
      let r = m.room in
      let free : free_block_count created ≡ free_block_count s = free_block_count_reads s created created_set.shape.blocks (λ q _. created_uses q) in
      let size : (object_at created o).size ≡ 0 = ap (λ (y : Object). y.size) created_set.object ∙ m.fresh.empty in
      record {
        below = rw created_set.shape.objects r.object_below;
        regular = λ given. ap (λ (y : Object). y.kind) created_set.object ∙ m.sized given;
        small = m.small;
        room = rw (size, free) (omega (arith, r.room));
      }

  -- the size, where one is given, leaves the store good
  pub created_sized : StillGood s (resize_to (create_object s o n v d text) o x)
  created_sized =
      still_trans s created (resize_to created o x) created_still (sized_still created o x created_still.good created_sizable)

  -- the directory's type stays
  directory_stays : (object_at (resize_to created o x) d).kind ≡ DIRECTORY
  directory_stays =
      let r = m.room in
      let other = created_set.other_objects d m.below (λ q. omega (arith, r.object_free, m.directory, ap (λ (i : ℕ). (object_at s i).kind) q)) in
      sized_kind created o x created_still.good created_sizable d (rw created_set.shape.objects m.below) ∙ ap
      (λ (y : Object). y.kind) other ∙ m.directory

  pub new_still : StillGood s (new_edit s c v x o n d text)
  unfolding new_edit
  new_still =
      let t = resize_to created o x in
      let h = created_sized in
      still_trans s t (new_edit s c v x o n d text) h
      (set_attributes_still t h.good c.clock d mtime_and_ctime (rw h.shape.objects m.below) (omega (arith, directory_stays)) m.clock
      mtime_and_ctime_fits mtime_and_ctime_allowed)

-- the store that CREATE leaves where a file has the name
pub existing_still : (s : Store) (c : Context) (o : ℕ) (x : Option ℕ) → GoodRecords s → GoodClock c.clock → Sizable s o x → StillGood s (existing_edit s c o x)
existing_still s c o None g k z = still_refl s g
existing_still s c o (Some n) g k z =
    let t = resize s o n in
    let r = resize_still s g o n z.below (z.regular refl) z.small z.room in
    let kind = sized_kind s o (Some n) g z o z.below ∙ z.regular refl in
    still_trans s t (existing_edit s c o (Some n)) r
    (set_attributes_still t r.good c.clock o mtime_and_ctime (rw r.shape.objects z.below) (omega (arith, kind)) k mtime_and_ctime_fits
    mtime_and_ctime_allowed)
