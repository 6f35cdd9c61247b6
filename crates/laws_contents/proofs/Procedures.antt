-- The edits of SETATTR, WRITE, CREATE, MKDIR, REMOVE, RMDIR, RENAME and LINK, as the contents of files show them. Assumes nothing.
use Rattle.std.specs.Prelude.{Option, Some, None}
use Rattle.kinds.specs.declared.object.Time.{Time}
use mathlib.Core.Path.{◌≡◌, refl, sym, ap, ◌∙◌}
use mathlib.Core.Logic.{◌≢◌}
use mathlib.Core.Bool.{true}
use mathlib.Core.List.{List, []}
use mathlib.Core.Option.{some}
use Prim.Native.Nat.{ℕ, ◌^◌, ◌≤◌, ◌<◌, min}
use native.Mathlib.Omega.{arith}
use lib.Dec.{ltb, lit<}
use lib.ListN.{length, take, length-take}
use borrow.Author.Tests.{ltb-false}
use Rattle.kinds.specs.Numbers.{REGULAR, DIRECTORY, most_file_bytes, most_transfer_bytes}
use Rattle.kinds.specs.declared.object.Object.{Object}
use Rattle.kinds.specs.declared.object.Context.{Context}
use Rattle.kinds.specs.declared.call.Settable.{Settable}
use Rattle.spec.specs.Edits.{set_attributes, only_ctime, mtime_and_ctime, resize, with_generation, add_name, create_object, remove_name, move_name}
use Rattle.spec.specs.Image.{Store, objects, names, blocks, object_at, name_at}
use Rattle.spec.specs.Procedures.Attributes.{is_given, size_set, size_touches, resize_to, setattr_edit}
use Rattle.spec.specs.Procedures.Data.{write_store}
use Rattle.spec.specs.Procedures.Link.{link_edit}
use Rattle.spec.specs.Procedures.Names.{touch_directory, new_edit, existing_edit}
use Rattle.spec.specs.Procedures.Removal.{Onto, new_name, same_object, replacing, move_edit, rename_edit}
use Rattle.spec.specs.Room.{size_of, free_block_count, namings, find_name}
use Rattle.laws.proofs.ActGood.{regular_of}
use Rattle.laws.proofs.Count.{by_bool}
use Rattle.laws.proofs.CreateObject.{create_object_lem, create_object_uses}
use Rattle.laws.proofs.GoodRecords.{GoodRecords, GoodClock, StillGood, clock_fits, live_at, free_size, used_at, create_object_still}
use Rattle.laws.proofs.Kept.{Sound}
use Rattle.laws.proofs.NewObject.{FreshObject}
use Rattle.laws.proofs.Passed.{SetattrPassed, WritePassed, NewRoom, RenamePassed, LinkPassed, found_record}
use Rattle.laws.proofs.PutName.{add_name_lem, move_name_lem}
use Rattle.laws.proofs.Range.{Below, below_take}
use Rattle.laws.proofs.RemoveName.{remove_one, remove_last, remove_name_lem}
use Rattle.laws.proofs.SameReads.{free_block_count_reads}
use Rattle.laws.proofs.SetAttributes.{FitsSettable, set_attributes_lem, only_ctime_fits, mtime_and_ctime_fits, size_touches_fits}
use Rattle.laws.proofs.Valid.{GoodName, Used}
use Rattle.laws_contents.specs.Contents.{contents}
use Rattle.laws_contents.specs.Written.{written, sized_to}
use Rattle.laws_contents.proofs.RecordEdits.{set_attributes_contents, forget_verifier_contents, move_name_contents, create_object_others}
use Rattle.laws_contents.proofs.RecordEdits.{create_object_none, add_name_contents, drop_name_contents}
use Rattle.laws_contents.proofs.RemoveObject.{remove_object_others}
use Rattle.laws_contents.proofs.SizeSet.{MaySize, resize_to_still, resize_to_contents, resize_to_others}
use Rattle.laws_contents.proofs.WriteEdit.{write_store_written, write_store_others}

module _ (s : Store) (g : GoodRecords s) (c : Context) (k : GoodClock c.clock) where
  -- ---- SETATTR
  setattr_size : (h : List ℕ) (a : Settable) (w : Option Time) (o : ℕ) → SetattrPassed s h a w o → MaySize s o a.size
  setattr_size h a w o q =
      let l = q.reached.below in
      record {
        below = l;
        regular = λ given. regular_of (blocks s) (object_at s o) (live_at s g o l q.reached.live) (q.not_directory given);
        small = q.allowed.size;
        room = q.room;
      }

  -- attributes and the verifier are in no file's contents
  attributes_set : (a : Settable) (o : ℕ) → FitsSettable a → MaySize s o a.size → (p : ℕ) → p < objects s
      → contents (setattr_edit s c o a) p ≡ contents (resize_to s o a.size) p
  unfolding setattr_edit
  attributes_set a o f m p l =
      let t = resize_to s o a.size in
      let r = resize_to_still s g o a.size m in
      let below : o < objects t = rw r.shape.objects m.below in
      let beside : p < objects t = rw r.shape.objects l in
      let clock = clock_fits c.clock k in
      let fits = size_touches_fits a f in
      let e = set_attributes_lem t c.clock o (size_touches a) r.good.sound below clock fits in
      forget_verifier_contents (set_attributes t c.clock o (size_touches a)) o e.sound (rw e.shape.objects below) p (rw e.shape.objects beside)
      ∙ set_attributes_contents t c.clock o (size_touches a) r.good.sound below clock fits p beside

  -- SETATTR cuts or pads the contents where it sets a size
  pub setattr_contents : (h : List ℕ) (a : Settable) (w : Option Time) (o : ℕ) → FitsSettable a → SetattrPassed s h a w o
      → contents (setattr_edit s c o a) o ≡ sized_to (contents s o) a.size
  setattr_contents h a w o f q =
      let m = setattr_size h a w o q in
      attributes_set a o f m o m.below ∙ resize_to_contents s g o a.size m

  -- and keeps those of every other file
  pub setattr_others : (h : List ℕ) (a : Settable) (w : Option Time) (o : ℕ) → FitsSettable a → SetattrPassed s h a w o
      → (p : ℕ) → p < objects s → p ≢ o → contents (setattr_edit s c o a) p ≡ contents s p
  setattr_others h a w o f q p l d =
      let m = setattr_size h a w o q in
      attributes_set a o f m p l ∙ resize_to_others s g o a.size m p l d

  -- ---- WRITE
  module _ (h : List ℕ) (offset count : ℕ) (bytes : List ℕ) (o : ℕ) (w : Below 256 bytes) (q : WritePassed s h offset count bytes o) where
    moved : length (take (min count most_transfer_bytes) bytes) ≡ min count most_transfer_bytes
    moved = length-take (min count most_transfer_bytes) bytes ∙ omega (arith, q.counted)

    moved_below : Below 256 (take (min count most_transfer_bytes) bytes)
    moved_below = below_take 256 bytes (min count most_transfer_bytes) (lit< tt) w

    -- WRITE writes the bytes that it moves into the contents
    pub write_passed_written : contents (write_store s c o offset (take (min count most_transfer_bytes) bytes)) o
        ≡ written (contents s o) offset (take (min count most_transfer_bytes) bytes)
    write_passed_written =
        write_store_written s g c (clock_fits c.clock k) o offset (take (min count most_transfer_bytes) bytes) q.reached.below q.regular moved_below
        (λ z. rw moved (q.fits (omega (arith, moved)))) (λ z. rw moved (q.room (omega (arith, moved))))

    -- and keeps those of every other file
    pub write_passed_others : (p : ℕ) → p < objects s → p ≢ o → contents (write_store s c o offset (take (min count most_transfer_bytes) bytes)) p ≡ contents s p
    write_passed_others =
        write_store_others s g c (clock_fits c.clock k) o offset (take (min count most_transfer_bytes) bytes) q.reached.below q.regular moved_below
        (λ z. rw moved (q.fits (omega (arith, moved)))) (λ z. rw moved (q.room (omega (arith, moved))))

  -- ---- a directory's times
  touched : (t : Store) → Sound t → (d p : ℕ) → d < objects t → p < objects t → contents (touch_directory t c d) p ≡ contents t p
  touched t h d p l m = set_attributes_contents t c.clock d mtime_and_ctime h l (clock_fits c.clock k) mtime_and_ctime_fits p m

  -- ---- CREATE of a name that is there: its size alone
  pub existing_contents : (o : ℕ) (x : Option ℕ) → MaySize s o x → contents (existing_edit s c o x) o ≡ sized_to (contents s o) x
  existing_contents o None m = refl
  existing_contents o (Some n) m =
      let r = resize_to_still s g o (Some n) m in
      let l : o < objects (resize s o n) = rw r.shape.objects m.below in
      touched (resize s o n) r.good.sound o o l l ∙ resize_to_contents s g o (Some n) m

  -- and keeps the contents of every other file
  pub existing_others : (o : ℕ) (x : Option ℕ) → MaySize s o x → (p : ℕ) → p < objects s → p ≢ o → contents (existing_edit s c o x) p ≡ contents s p
  existing_others o None m p l d = refl
  existing_others o (Some n) m p l d =
      let r = resize_to_still s g o (Some n) m in
      touched (resize s o n) r.good.sound o p (rw r.shape.objects m.below) (rw r.shape.objects l)
      ∙ resize_to_others s g o (Some n) m p l d

  -- ---- CREATE and MKDIR of a new name
  module _ (v : Object) (x : Option ℕ) (o n d : ℕ) (text : List ℕ) (fresh : FreshObject v) (sized : is_given x ≡ true → v.kind ≡ REGULAR)
      (small : size_set x 0 ≤ most_file_bytes) (room : NewRoom s (size_set x 0) o n) (below : d < objects s) (dir : (object_at s d).kind ≡ DIRECTORY)
      (good : GoodName text) (w : Below 256 text) where
    -- the store with the new object, and its size to be set
    abbrev born : Store
    born = create_object s o n v d text

    directory_word : d < 2 ^ 32
    directory_word = let z = g.sound.shaped in omega arith

    born_still : StillGood s born
    born_still =
        create_object_still s g o n v d text room.object_below room.object_free room.generation_low room.name_below fresh.fits
        (fresh.live (blocks s)) fresh.empty below dir good w

    born_size : MaySize born o x
    unfolding with_generation size_of
    born_size =
        let h = g.sound in
        let l = room.object_below in
        let e = create_object_lem s o n v d text h l room.name_below fresh.fits directory_word good.short w in
        let free : free_block_count born ≡ free_block_count s = free_block_count_reads s born e.shape.blocks
        (λ q _. create_object_uses s o n v d text h l room.name_below fresh.fits directory_word good.short w
        (free_size s g o l room.object_free) fresh.empty q) in
        let size : (object_at born o).size ≡ 0 = ap (λ (y : Object). y.size) e.object ∙ fresh.empty in
        record {
          below = rw e.shape.objects l;
          regular = λ given. ap (λ (y : Object). y.kind) e.object ∙ sized given;
          small = small;
          room = rw (size, free) (omega (arith, room.room));
        }

    -- the times of the directory are set last
    new_touched : (p : ℕ) → p < objects s → contents (new_edit s c v x o n d text) p ≡ contents (resize_to born o x) p
    unfolding new_edit
    new_touched p l =
        let r = resize_to_still born born_still.good o x born_size in
        let e = born_still.shape in
        touched (resize_to born o x) r.good.sound d p (rw (r.shape.objects, e.objects) below) (rw (r.shape.objects, e.objects) l)

    -- a new file's contents are zeros up to its size
    pub new_contents : contents (new_edit s c v x o n d text) o ≡ sized_to [] x
    new_contents =
        new_touched o room.object_below ∙ resize_to_contents born born_still.good o x born_size
        ∙ ap (λ (z : List ℕ). sized_to z x)
        (create_object_none s o n v d text g.sound room.object_below room.name_below fresh.fits directory_word good.short w fresh.empty)

    -- every other file keeps its contents
    pub new_others : (p : ℕ) → p < objects s → p ≢ o → contents (new_edit s c v x o n d text) p ≡ contents s p
    new_others p l q =
        new_touched p l ∙ resize_to_others born born_still.good o x born_size p (rw born_still.shape.objects l) q
        ∙ create_object_others s o n v d text g.sound room.object_below room.name_below fresh.fits directory_word good.short w p l q

  -- ---- a name is removed
  module _ (n : ℕ) (l : n < names s) (u : Used s n) where
    -- one of several: every file keeps its contents, the one that it named too
    pub name_removed : ltb 1 (namings s (name_at s n).child) ≡ true → (p : ℕ) → p < objects s → contents (remove_name s c.clock n) p ≡ contents s p
    name_removed several p m =
        let o = (name_at s n).child in
        let below = (used_at s g n l u).0 in
        let t = set_attributes s c.clock o only_ctime in
        let e = set_attributes_lem s c.clock o only_ctime g.sound below (clock_fits c.clock k) only_ctime_fits in
        rw (remove_one s g c.clock n k l u several)
        (drop_name_contents t n e.sound (rw e.shape.names l) p (rw e.shape.objects m)
        ∙ set_attributes_contents s c.clock o only_ctime g.sound below (clock_fits c.clock k) only_ctime_fits p m)

    -- every other file keeps its contents
    name_removed_others : (p : ℕ) → p < objects s → p ≢ (name_at s n).child → contents (remove_name s c.clock n) p ≡ contents s p
    name_removed_others p m q =
        by_bool (ltb 1 (namings s (name_at s n).child))
        (λ t. name_removed t p m)
        (λ t. rw (remove_last s g c.clock n k l u t) (remove_object_others s g n l u p m q))

    -- ---- REMOVE and RMDIR: the times of the directory are set last
    removed_touched : (d : ℕ) → d < objects s → (p : ℕ) → p < objects s
        → contents (touch_directory (remove_name s c.clock n) c d) p ≡ contents (remove_name s c.clock n) p
    removed_touched d below p m =
        let e = (remove_name_lem s g c.clock n k l u).set in
        touched (remove_name s c.clock n) e.sound d p (rw e.shape.objects below) (rw e.shape.objects m)

    -- every other file keeps its contents
    pub removed_others : (d : ℕ) → d < objects s → (p : ℕ) → p < objects s → p ≢ (name_at s n).child
        → contents (touch_directory (remove_name s c.clock n) c d) p ≡ contents s p
    removed_others d below p m q = removed_touched d below p m ∙ name_removed_others p m q

    -- and so does the file, where it has other names
    pub removed_one : ltb 1 (namings s (name_at s n).child) ≡ true → (d : ℕ) → d < objects s → (p : ℕ) → p < objects s
        → contents (touch_directory (remove_name s c.clock n) c d) p ≡ contents s p
    removed_one several d below p m = removed_touched d below p m ∙ name_removed several p m

  -- ---- RENAME: every file keeps its contents, but for the one that is replaced
  -- the move alone
  moved_contents : (t : Store) → Sound t → (d e n : ℕ) (title : List ℕ) → n < names t → (name_at t n).child < objects t → d < objects t → e < objects t
      → GoodName title → Below 256 title → (p : ℕ) → p < objects t → contents (move_edit t c d e n title) p ≡ contents t p
  unfolding move_edit
  moved_contents t sound d e n title i child below beyond good w p l =
      let clock = clock_fits c.clock k in
      let z = sound.shaped in
      let o = (name_at t n).child in
      let word : e < 2 ^ 32 = omega arith in
      let t₁ = move_name t n e title in
      let m₁ = move_name_lem t n e title sound i word good.short w in
      let e₁ = m₁.shape in
      let b₁ : o < objects t₁ = rw e₁.objects child in
      let t₂ = set_attributes t₁ c.clock o only_ctime in
      let m₂ = set_attributes_lem t₁ c.clock o only_ctime m₁.sound b₁ clock only_ctime_fits in
      let e₂ = m₂.shape in
      let b₂ : d < objects t₂ = rw (e₂.objects, e₁.objects) below in
      let t₃ = touch_directory t₂ c d in
      let m₃ = set_attributes_lem t₂ c.clock d mtime_and_ctime m₂.sound b₂ clock mtime_and_ctime_fits in
      let e₃ = m₃.shape in
      touched t₃ m₃.sound e p (rw (e₃.objects, e₂.objects, e₁.objects) beyond) (rw (e₃.objects, e₂.objects, e₁.objects) l)
      ∙ touched t₂ m₂.sound d p b₂ (rw (e₂.objects, e₁.objects) l)
      ∙ set_attributes_contents t₁ c.clock o only_ctime m₁.sound b₁ clock only_ctime_fits p (rw e₁.objects l)
      ∙ move_name_contents t n e title sound i word good.short w p l

  -- the move after the second name's record is free
  replaced_moved : (h text j title : List ℕ) (d e n m : ℕ) → Below 256 title → RenamePassed s h text j title d e n (replacing m) → (p : ℕ) → p < objects s
      → contents (rename_edit s c d e n (replacing m) title) p ≡ contents (remove_name s c.clock m) p
  replaced_moved h text j title d e n m w q p l =
      let (i, u, x, y) = found_record s d text n q.found in
      let (a, b, z, f) = found_record s e title m q.target.found in
      let r = (remove_name_lem s g c.clock m k a b).set in
      let kept = (r.other_names n i (λ k. q.target.other (ap (λ (y : ℕ). (name_at s y).child) (sym k)))).all in
      moved_contents (remove_name s c.clock m) r.sound d e n title (rw r.shape.names i) (rw (kept, r.shape.objects) (used_at s g n i u).0)
      (rw r.shape.objects q.reached.below) (rw r.shape.objects q.target_reached.below) q.target_good w p (rw r.shape.objects l)

  -- the second name is not the last one that p has
  pub renamed_contents : (h text j title : List ℕ) (d e n : ℕ) (t : Onto) → Below 256 title → RenamePassed s h text j title d e n t
      → (p : ℕ) → p < objects s → ((m : ℕ) → find_name s e title ≡ some m → p ≡ (name_at s m).child → namings s p ≤ 1 → ⊥)
      → contents (rename_edit s c d e n t title) p ≡ contents s p
  renamed_contents h text j title d e n new_name w q p l other =
      let (i, u, x, y) = found_record s d text n q.found in
      moved_contents s g.sound d e n title i (used_at s g n i u).0 q.reached.below q.target_reached.below q.target_good w p l
  renamed_contents h text j title d e n same_object w q p l other = refl
  renamed_contents h text j title d e n (replacing m) w q p l other =
      let (a, b, z, f) = found_record s e title m q.target.found in
      replaced_moved h text j title d e n m w q p l
      ∙ by_bool (ltb 1 (namings s (name_at s m).child))
      (λ t. name_removed m a b t p l)
      (λ t. name_removed_others m a b p l (λ x. other m q.target.found x (rw x (ltb-false 1 (namings s (name_at s m).child) t))))

  -- ---- LINK: every file keeps its contents
  pub linked_contents : (h j text : List ℕ) (o d n : ℕ) → Below 256 text → LinkPassed s h j text o d n → (p : ℕ) → p < objects s
      → contents (link_edit s c o d n text) p ≡ contents s p
  unfolding link_edit
  linked_contents h j text o d n w q p l =
      let clock = clock_fits c.clock k in
      let z = g.sound.shaped in
      let file = q.reached.below in
      let below = q.directory_reached.below in
      let t = set_attributes s c.clock o only_ctime in
      let e = set_attributes_lem s c.clock o only_ctime g.sound file clock only_ctime_fits in
      let m : n < names t = rw e.shape.names q.name_below in
      let a = add_name_lem t n d text e.sound m (omega arith) q.good.short w o (omega arith) in
      let shape = e.shape in
      touched (add_name t n o d text) a.sound d p (rw (a.shape.objects, shape.objects) below) (rw (a.shape.objects, shape.objects) l)
      ∙ add_name_contents t n o d text e.sound m (omega arith) (omega arith) q.good.short w p (rw shape.objects l)
      ∙ set_attributes_contents s c.clock o only_ctime g.sound file clock only_ctime_fits p l
