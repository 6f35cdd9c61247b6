-- Every call keeps the shape of the store, and the demands of the store check on single records and on blocks. Assumes nothing.
use Rattle.std.specs.Prelude.{Option, Some, None}
use Rattle.kinds.specs.declared.object.Time.{Time}
use mathlib.Core.Path.{◌≡◌, refl, sym, ap, ◌∙◌}
use mathlib.Core.Logic.{◌≢◌, ◌⊎◌, ⊎_elim}
use mathlib.Core.Bool.{true, false}
use mathlib.Core.List.{List}
use Prim.Native.Nat.{ℕ, ◌+◌, ◌-◌, ◌^◌, ◌≤◌, ◌<◌, min}
use native.Mathlib.Omega.{arith}
use lib.Dec.{eqb, lit<}
use lib.ListN.{length, take, length-take}
use borrow.Author.Tests.{eqb-false}
use Rattle.kinds.specs.Numbers.{REGULAR, DIRECTORY, most_transfer_bytes, most_file_bytes}
use Rattle.kinds.specs.declared.object.Object.{Object}
use Rattle.kinds.specs.declared.object.Context.{Context}
use Rattle.kinds.specs.declared.call.Settable.{Settable}
use Rattle.kinds.specs.declared.call.How.{How}
use Rattle.kinds.specs.declared.call.Arguments.{Arguments}
use Rattle.kinds.specs.declared.call.Arguments.TheVariants as Arguments
use Rattle.spec.specs.Checked.{Checked, refused, passed}
use Rattle.spec.specs.Edits.{set_attributes, only_ctime, mtime_and_ctime, resize, with_generation, add_name, create_object, remove_name, move_name, write_file}
use Rattle.spec.specs.Image.{Store, objects, names, blocks, object_at, name_at}
use Rattle.spec.specs.Procedures.{cut, act}
use Rattle.spec.specs.Procedures.Attributes.{is_given, size_set, size_touches, resize_to, check_setattr, setattr_edit, edited, setattr}
use Rattle.spec.specs.Procedures.Data.{grown, check_write, write_edit, write_store, write_done, write}
use Rattle.spec.specs.Procedures.Link.{check_link, link_edit, fail_linking, linked_to, link}
use Rattle.spec.specs.Procedures.Names.{new_object, touch_directory, new_edit, created_in, Target, new, existing, settable_in, existing_edit, new_file}
use Rattle.spec.specs.Procedures.Names.{create_edit, check_create, create, check_mkdir, mkdir}
use Rattle.spec.specs.Procedures.Removal.{check_remove, check_rmdir, remove_from, remove, rmdir, Onto, new_name, same_object, replacing, check_rename, move_edit}
use Rattle.spec.specs.Procedures.Removal.{rename_edit, fail_renaming, renamed_to, rename}
use Rattle.spec.specs.Results.{Result, Done, fail_changing, settle}
use Rattle.spec.specs.Room.{size_of, need, free_block_count}
use Rattle.spec.specs.Serve.{serve}
use Rattle.laws.proofs.ArgumentRange.{FitsHow, FitsArguments, arguments_fit}
use Rattle.laws.proofs.BlockWrites.{write_file_lem}
use Rattle.laws.proofs.Count.{by_bool, true_false}
use Rattle.laws.proofs.CreateObject.{create_object_lem, create_object_uses}
use Rattle.laws.proofs.Error.{getattr_store, lookup_store, access_store, read_store, readdir_store, fsstat_store, fsinfo_store, pathconf_store}
use Rattle.laws.proofs.Error.{commit_store}
use Rattle.laws.proofs.GoodKept.{used_of}
use Rattle.laws.proofs.GoodRecords.{GoodRecords, StillGood, GoodClock, clock_fits, valid_records, still_refl, still_trans, live_at, free_size}
use Rattle.laws.proofs.GoodRecords.{used_at, set_attributes_still, forget_verifier_still, resize_still, write_file_still, create_object_still}
use Rattle.laws.proofs.GoodRecords.{add_name_still, move_name_still}
use Rattle.laws.proofs.Kept.{kept_refl}
use Rattle.laws.proofs.NewObject.{FreshObject, new_fresh, file_kind, file_fresh}
use Rattle.laws.proofs.Passed.{SetattrPassed, setattr_passed, WritePassed, write_passed, NewRoom, CreatePassed, create_passed, mkdir_passed}
use Rattle.laws.proofs.Passed.{RemovePassed, remove_passed, RmdirPassed, rmdir_passed, replaced_alone, RenamePassed, rename_passed, found_record}
use Rattle.laws.proofs.Passed.{no_entries, LinkPassed, link_passed}
use Rattle.laws.proofs.PutName.{add_name_lem, move_name_lem}
use Rattle.laws.proofs.Range.{Below, below_take}
use Rattle.laws.proofs.RecordRange.{cut_below}
use Rattle.laws.proofs.RemoveName.{remove_name_lem, remove_name_still}
use Rattle.laws.proofs.Resize.{resize_size, resize_tree}
use Rattle.laws.proofs.SameReads.{free_block_count_reads}
use Rattle.laws.proofs.Served.{Ran, serve_ran}
use Rattle.laws.proofs.SetAttributes.{FitsSettable, only_ctime_fits, mtime_and_ctime_fits, only_ctime_allowed}
use Rattle.laws.proofs.SetAttributes.{mtime_and_ctime_allowed, size_touches_fits, size_touches_allowed, set_attributes_structure}
use Rattle.laws.proofs.Structure.{SameTree, kept_structure}
use Rattle.laws.proofs.Valid.{LiveObject, GoodName, Live, Used, Valid, live_size}

-- a live object that is no directory is a regular file
pub regular_of : (r : ℕ) (v : Object) → LiveObject r v → v.kind ≢ DIRECTORY → v.kind ≡ REGULAR
regular_of r v l n = ⊎_elim (λ p. p.0) (λ p. absurd (n p.0)) l.size

size_small : (s : Store) (o : ℕ) → LiveObject (blocks s) (object_at s o) → size_of s o ≤ most_file_bytes
unfolding size_of
size_small s o v = live_size (blocks s) (object_at s o) v

-- no size is given
pub not_given : (x : Option ℕ) → is_given x ≡ false → size_set x 0 ≡ 0
not_given None e = refl
not_given (Some n) e = true_false e

-- ---- edits of any store with good records
module _ (s : Store) (g : GoodRecords s) where
  tree_refl : SameTree s s
  tree_refl = (kept_structure s s (kept_refl s g.sound)).tree

  -- a size, where one is given
  pub resize_to_lem : (o : ℕ) (x : Option ℕ) → o < objects s → (is_given x ≡ true → (object_at s o).kind ≡ REGULAR) → size_set x 0 ≤ most_file_bytes
      → need (size_set x (size_of s o)) - need (size_of s o) ≤ free_block_count s → StillGood s (resize_to s o x) × SameTree s (resize_to s o x)
  resize_to_lem o None l k small room = (still_refl s g, tree_refl)
  resize_to_lem o (Some n) l k small room =
      let r = k refl in
      (resize_still s g o n l r small room, resize_tree s o n g.sound l (live_at s g o l (omega arith)) small room)

  module _ (c : Context) (k : GoodClock c.clock) where
    touch_directory_lem : (d : ℕ) → d < objects s → Live s d → StillGood s (touch_directory s c d)
    touch_directory_lem d l v = set_attributes_still s g c.clock d mtime_and_ctime l v k mtime_and_ctime_fits mtime_and_ctime_allowed

-- what happens to o in t, where t came from s
module _ (s t : Store) (a : StillGood s t) where
  below_after : (o : ℕ) → o < objects s → o < objects t
  below_after o l = rw a.shape.objects l

  -- a directory's times are set after an edit that leaves its type
  touch_after : (c : Context) (d : ℕ) → GoodClock c.clock → d < objects s → (object_at t d).kind ≡ (object_at s d).kind → (object_at s d).kind ≡ DIRECTORY
      → StillGood s (touch_directory t c d)
  touch_after c d k l e w = still_trans s t (touch_directory t c d) a (touch_directory_lem t a.good c k d (below_after d l) (omega arith))

-- WRITE of bytes that fit, where there is room
module _ (s : Store) (g : GoodRecords s) (c : Context) (k : GoodClock c.clock) where
  pub write_edit_lem : (o offset : ℕ) (xs : List ℕ) → o < objects s → (object_at s o).kind ≡ REGULAR → Below 256 xs → offset + length xs ≤ most_file_bytes
      → need (grown s o offset (length xs)) - need (size_of s o) ≤ free_block_count s → StillGood s (write_edit s c o offset xs)
  unfolding write_edit
  write_edit_lem o offset xs l reg w fits room =
      let live = live_at s g o l (omega arith) in
      let size = grown s o offset (length xs) in
      let small : size ≤ most_file_bytes = omega (arith, size_small s o live) in
      let t = resize s o size in
      let r = resize_still s g o size l reg small room in
      let tree = resize_tree s o size g.sound l live small room in
      let kind : (object_at t o).kind ≡ REGULAR = tree.kind o l ∙ reg in
      let m = below_after s t r o l in
      let inside : offset + length xs ≤ size_of t o = omega (arith, resize_size s o size g.sound l live small room) in
      let u = write_file t o offset xs in
      let q = write_file_still t r.good o offset xs m (omega arith) w inside in
      let same = (write_file_lem t o offset xs r.good.sound (live_at t r.good o m (omega arith)) w inside).each_object o m in
      let i = still_trans s t u r q in
      still_trans s u (write_edit s c o offset xs) i
      (set_attributes_still u q.good c.clock o mtime_and_ctime (below_after s u i o l) (rw same (omega arith)) k mtime_and_ctime_fits
      mtime_and_ctime_allowed)

-- what a move of name record n from directory d to directory e asks of a store
pub record Movable (s : Store) (d e n : ℕ) : Type 0 where
  pub name : n < names s
  pub used : Used s n
  pub below : d < objects s
  pub directory : (object_at s d).kind ≡ DIRECTORY
  pub beyond : e < objects s
  pub target_directory : (object_at s e).kind ≡ DIRECTORY

module _ (s : Store) (g : GoodRecords s) (c : Context) (k : GoodClock c.clock) where
  move_edit_lem : (d e n : ℕ) (title : List ℕ) → GoodName title → Below 256 title → Movable s d e n → StillGood s (move_edit s c d e n title)
  unfolding move_edit
  move_edit_lem d e n title good w p =
      let l = p.name in
      let u = p.used in
      let sound = g.sound in
      let shape = sound.shaped in
      let clock = clock_fits c.clock k in
      let o = (name_at s n).child in
      let x = used_at s g n l u in
      let below = p.below in
      let beyond = p.beyond in
      let t₁ = move_name s n e title in
      let r₁ = move_name_still s g n e title l u beyond p.target_directory good w in
      let m = move_name_lem s n e title sound l (omega arith) good.short w in
      let same : (y : ℕ) → y < objects s → (object_at t₁ y).kind ≡ (object_at s y).kind = λ y z. ap (λ (q : Object). q.kind) (m.each_object y z) in
      let t₂ = set_attributes t₁ c.clock o only_ctime in
      let q₂ = below_after s t₁ r₁ o x.0 in
      let a₂ = set_attributes_still t₁ r₁.good c.clock o only_ctime q₂ (rw (same o x.0) x.1) k only_ctime_fits only_ctime_allowed in
      let b₂ = (set_attributes_structure t₁ c.clock o only_ctime r₁.good.sound q₂ clock only_ctime_fits).tree in
      let r₂ = still_trans s t₁ t₂ r₁ a₂ in
      let kind₂ : (y : ℕ) → y < objects s → (object_at t₂ y).kind ≡ (object_at s y).kind = λ y z. b₂.kind y (below_after s t₁ r₁ y z) ∙ same y z in
      let t₃ = touch_directory t₂ c d in
      let r₃ = touch_after s t₂ r₂ c d k below (kind₂ d below) p.directory in
      let b₃ = (set_attributes_structure t₂ c.clock d mtime_and_ctime r₂.good.sound (below_after s t₂ r₂ d below) clock mtime_and_ctime_fits).tree in
      touch_after s t₃ r₃ c e k beyond (b₃.kind e (below_after s t₂ r₂ e beyond) ∙ kind₂ e beyond) p.target_directory

module _ (s : Store) (c : Context) (v : Valid s) (b : Below 256 s) (k : GoodClock c.clock) where
  records : GoodRecords s
  records = valid_records s v b

  settle_good : {A : Type 0} (fail : ℕ → Result) (checks : Checked A) (go : A → Done) → ((a : A) → checks ≡ passed a → StillGood s (go a).store)
      → StillGood s (settle s fail checks go).store
  settle_good fail (refused status) go f = still_refl s records
  settle_good fail (passed a) go f = f a refl

  -- ---- SETATTR
  setattr_edit_lem : (h : List ℕ) (a : Settable) (w : Option Time) (o : ℕ) → FitsSettable a → SetattrPassed s h a w o → StillGood s (setattr_edit s c o a)
  unfolding setattr_edit
  setattr_edit_lem h a w o f p =
      let l = p.reached.below in
      let live = p.reached.live in
      let r = resize_to_lem s records o a.size l
      (λ given. regular_of (blocks s) (object_at s o) (live_at s records o l live) (p.not_directory given)) p.allowed.size p.room in
      let t = resize_to s o a.size in
      let m = below_after s t r.0 o l in
      let fits = size_touches_fits a f in
      let still_live_lem : Live t o = rw (r.1.kind o l) live in
      let u = set_attributes t c.clock o (size_touches a) in
      let q = set_attributes_still t r.0.good c.clock o (size_touches a) m still_live_lem k fits (size_touches_allowed a p.allowed) in
      let tree = (set_attributes_structure t c.clock o (size_touches a) r.0.good.sound m (clock_fits c.clock k) fits).tree in
      let i = still_trans s t u r.0 q in
      still_trans s u (setattr_edit s c o a) i (forget_verifier_still u q.good o (below_after s u i o l) (rw (tree.kind o m) still_live_lem))

  setattr_good : (h : List ℕ) (a : Settable) (w : Option Time) → FitsSettable a → StillGood s (setattr s c h a w).store
  unfolding setattr
  setattr_good h a w f =
      settle_good (fail_changing s h) (check_setattr s h a w) (λ o. edited s o (setattr_edit s c o a)) (λ o e. setattr_edit_lem h a w o f (setattr_passed s h a w o e))

  -- ---- WRITE
  write_store_lem : (h : List ℕ) (offset count : ℕ) (bytes : List ℕ) (o : ℕ) → Below 256 bytes → WritePassed s h offset count bytes o
      → StillGood s (write_store s c o offset (take (min count most_transfer_bytes) bytes))
  unfolding write_store
  write_store_lem h offset count bytes o w p =
      let xs = take (min count most_transfer_bytes) bytes in
      let n : length xs ≡ min count most_transfer_bytes = length-take (min count most_transfer_bytes) bytes ∙ omega (arith, p.counted) in
      by_bool (eqb (length xs) 0)
      (λ t. rw t (still_refl s records))
      (λ t. let some : 0 < count = omega (arith, eqb-false (length xs) 0 t) in
      rw t (write_edit_lem s records c k o offset xs p.reached.below p.regular (below_take 256 bytes (min count most_transfer_bytes) (lit< tt) w)
      (rw n (p.fits some)) (rw n (p.room some))))

  write_good : (h : List ℕ) (offset count : ℕ) (bytes : List ℕ) → Below 256 bytes → StillGood s (write s c h offset count bytes).store
  unfolding write write_done
  write_good h offset count bytes w =
      settle_good (fail_changing s h) (check_write s h offset count bytes) (λ o. write_done s c o offset (take (min count most_transfer_bytes) bytes))
      (λ o e. write_store_lem h offset count bytes o w (write_passed s h offset count bytes o e))

  -- ---- CREATE and MKDIR
  new_edit_lem : (v : Object) (x : Option ℕ) (o n d : ℕ) (text : List ℕ) → FreshObject v → (is_given x ≡ true → v.kind ≡ REGULAR) → size_set x 0 ≤ most_file_bytes
      → NewRoom s (size_set x 0) o n → d < objects s → (object_at s d).kind ≡ DIRECTORY → GoodName text → Below 256 text
      → StillGood s (new_edit s c v x o n d text)
  unfolding new_edit with_generation size_of
  new_edit_lem v x o n d text fresh sized small room below dir good w =
      let h = records.sound in
      let fits = fresh.fits in
      let l = room.object_below in
      let t = create_object s o n v d text in
      let z = h.shaped in
      let r = create_object_still s records o n v d text l room.object_free room.generation_low room.name_below fits (fresh.live (blocks s))
      fresh.empty below dir good w in
      let e = create_object_lem s o n v d text h l room.name_below fits (omega arith) good.short w in
      let free : free_block_count t ≡ free_block_count s = free_block_count_reads s t e.shape.blocks
      (λ q _. create_object_uses s o n v d text h l room.name_below fits (omega arith) good.short w
      (free_size s records o l room.object_free) fresh.empty q) in
      let size : (object_at t o).size ≡ 0 = ap (λ (y : Object). y.size) e.object ∙ fresh.empty in
      let sizes = resize_to_lem t r.good o x (below_after s t r o l) (λ given. ap (λ (y : Object). y.kind) e.object ∙ sized given) small
      (rw (size, free) (omega (arith, room.room))) in
      let u = resize_to t o x in
      let m = below_after s t r d below in
      touch_after s u (still_trans s t u r sizes.0) c d k below
      (sizes.1.kind d m ∙ ap (λ (y : Object). y.kind)
      (e.other_objects d below (λ q. omega (arith, room.object_free, ap (λ (i : ℕ). (object_at s i).kind) q)))) dir

  existing_edit_lem : (o : ℕ) (x : Option ℕ) → o < objects s → (object_at s o).kind ≡ REGULAR → size_set x 0 ≤ most_file_bytes
      → need (size_set x (size_of s o)) - need (size_of s o) ≤ free_block_count s → StillGood s (existing_edit s c o x)
  existing_edit_lem o None l reg small room = still_refl s records
  existing_edit_lem o (Some n) l reg small room =
      let t = resize s o n in
      let r = resize_still s records o n l reg small room in
      let tree = resize_tree s o n records.sound l (live_at s records o l (omega arith)) small room in
      still_trans s t (existing_edit s c o (Some n)) r
      (set_attributes_still t r.good c.clock o mtime_and_ctime (below_after s t r o l) (rw (tree.kind o l) (omega arith)) k mtime_and_ctime_fits
      mtime_and_ctime_allowed)

  create_target : (h text : List ℕ) (manner : How) (d : ℕ) (t : Target) → Below 256 text → FitsHow manner → CreatePassed s h text manner d t
      → StillGood s (create_edit s c d text manner t).store
  create_target h text manner d (new o n) w f p =
      new_edit_lem (new_file c.clock manner) (settable_in manner).size o n d text (file_fresh c.clock manner k f p.allowed)
      (λ _. file_kind c.clock manner) p.allowed.size p.target.1 p.reached.below p.directory p.good w
  create_target h text manner d (existing o) w f p =
      let (n, e, i, q) = p.target in
      let r = found_record s d text n e in
      let u = used_at s records n r.0 r.1 in
      existing_edit_lem o (settable_in manner).size (rw i at u.0) q.regular p.allowed.size q.room

  create_good : (h text : List ℕ) (manner : How) → Below 256 text → FitsHow manner → StillGood s (create s c h text manner).store
  unfolding create
  create_good h text manner w f =
      settle_good (fail_changing s h) (check_create s h text manner) (λ p. create_edit s c p.0 text manner p.1)
      (λ p e. create_target h text manner p.0 p.1 w f (create_passed s h text manner p e))

  mkdir_good : (h text : List ℕ) (a : Settable) → Below 256 text → FitsSettable a → StillGood s (mkdir s c h text a).store
  unfolding mkdir
  mkdir_good h text a w f =
      let x = new_object c.clock DIRECTORY a in
      settle_good (fail_changing s h) (check_mkdir s h text a) (λ p. created_in s (new_edit s c x a.size p.1 p.2 p.0 text) p.0 p.1)
      (λ p e. let q = mkdir_passed s h text a p e in
      new_edit_lem x a.size p.1 p.2 p.0 text (new_fresh c.clock DIRECTORY a k (◌⊎◌.inr refl) f q.allowed)
      (λ given. true_false (sym given ∙ q.no_size)) q.allowed.size (rw (not_given a.size q.no_size) q.room)
      q.reached.below q.directory q.good w)

  -- ---- REMOVE and RMDIR
  -- the edit, where no name stands in the object, and the directory is not the object
  remove_edit : (d n : ℕ) → n < names s → Used s n → d < objects s → (object_at s d).kind ≡ DIRECTORY → d ≢ (name_at s n).child
      → ((m : ℕ) → m < names s → Used s m → (name_at s m).directory ≢ (name_at s n).child) → StillGood s (touch_directory (remove_name s c.clock n) c d)
  remove_edit d n l u below dir other alone =
      let t = remove_name s c.clock n in
      let r = remove_name_still s records c.clock n k l u alone in
      let e = remove_name_lem s records c.clock n k l u in
      touch_after s t r c d k below (ap (λ (x : Object). x.kind) (e.set.other_objects d below other)) dir

  removed_file : (h text : List ℕ) (d n : ℕ) → RemovePassed s h text d n → StillGood s (touch_directory (remove_name s c.clock n) c d)
  removed_file h text d n p =
      let (l, u, i, j) = found_record s d text n p.entry.found in
      remove_edit d n l u p.entry.reached.below p.entry.directory (λ e. p.file (rw e at p.entry.directory))
      (λ m a b e. p.file (rw e at (used_of s m b (v.good_names m a)).in_directory_lem))

  removed_directory : (h text : List ℕ) (d n : ℕ) → RmdirPassed s h text d n → StillGood s (touch_directory (remove_name s c.clock n) c d)
  removed_directory h text d n p =
      let (l, u, i, j) = found_record s d text n p.entry.found in
      let none_in : (m : ℕ) → m < names s → Used s m → (name_at s m).directory ≢ (name_at s n).child = λ m a b. no_entries s (name_at s n).child m p.empty a b in
      remove_edit d n l u p.entry.reached.below p.entry.directory (λ e. none_in n l u (i ∙ e)) none_in

  removal : (h : List ℕ) (checks : Checked (ℕ × ℕ))
      → ((p : ℕ × ℕ) → checks ≡ passed p → StillGood s (touch_directory (remove_name s c.clock p.1) c p.0)) → StillGood s (remove_from s c h checks).store
  unfolding remove_from
  removal h checks f = settle_good (fail_changing s h) checks (λ p. edited s p.0 (touch_directory (remove_name s c.clock p.1) c p.0)) f

  remove_good : (h text : List ℕ) → StillGood s (remove s c h text).store
  unfolding remove
  remove_good h text = removal h (check_remove s h text) (λ p e. removed_file h text p.0 p.1 (remove_passed s h text p e))

  rmdir_good : (h text : List ℕ) → StillGood s (rmdir s c h text).store
  unfolding rmdir
  rmdir_good h text = removal h (check_rmdir s h text) (λ p e. removed_directory h text p.0 p.1 (rmdir_passed s h text p e))

  -- ---- RENAME
  pub movable : (h text j title : List ℕ) (d e n : ℕ) (t : Onto) → RenamePassed s h text j title d e n t → Movable s d e n
  movable h text j title d e n t p =
      let (l, u, i, q) = found_record s d text n p.found in
      record {
        name = l;
        used = u;
        below = p.reached.below;
        directory = p.directory;
        beyond = p.target_reached.below;
        target_directory = p.target_directory;
      }

  -- the name that gives way is removed, and what the move asks for is left
  pub replaced : (h text j title : List ℕ) (d e n m : ℕ) → RenamePassed s h text j title d e n (replacing m)
      → StillGood s (remove_name s c.clock m) × Movable (remove_name s c.clock m) d e n
  replaced h text j title d e n m p =
      let t = remove_name s c.clock m in
      let o = (name_at s m).child in
      let (l, u, i, _) = found_record s d text n p.found in
      let (a, b, x, _) = found_record s e title m p.target.found in
      let alone : (y : ℕ) → y < names s → Used s y → (name_at s y).directory ≢ o =
      λ y z q. replaced_alone s v.good_names (name_at s n).child o y p.target.gives_way z q in
      let r = remove_name_still s records c.clock m k a b alone in
      let f = (remove_name_lem s records c.clock m k a b).set in
      let kept = f.other_names n l (λ q. p.target.other (ap (λ (y : ℕ). (name_at s y).child) (sym q))) in
      let kind : (y : ℕ) → y < objects s → y ≢ o → (object_at t y).kind ≡ (object_at s y).kind =
      λ y z q. ap (λ (x : Object). x.kind) (f.other_objects y z q) in (
        r,
        record {
          name = omega (arith, r.shape.names);
          used = omega (arith, kept.long);
          below = below_after s t r d p.reached.below;
          directory = kind d p.reached.below (λ q. alone n l u (i ∙ q)) ∙ p.directory;
          beyond = below_after s t r e p.target_reached.below;
          target_directory = kind e p.target_reached.below (λ q. alone m a b (x ∙ q)) ∙ p.target_directory;
        },
      )

  rename_edit_lem : (h text j title : List ℕ) (d e n : ℕ) (t : Onto) → Below 256 title → RenamePassed s h text j title d e n t
      → StillGood s (rename_edit s c d e n t title)
  rename_edit_lem h text j title d e n new_name w p = move_edit_lem s records c k d e n title p.target_good w (movable h text j title d e n new_name p)
  rename_edit_lem h text j title d e n same_object w p = still_refl s records
  rename_edit_lem h text j title d e n (replacing m) w p =
      let (r, q) = replaced h text j title d e n m p in
      let t = remove_name s c.clock m in
      still_trans s t (move_edit t c d e n title) r (move_edit_lem t r.good c k d e n title p.target_good w q)

  rename_good : (h text j title : List ℕ) → Below 256 title → StillGood s (rename s c h text j title).store
  unfolding rename
  rename_good h text j title w =
      settle_good (fail_renaming s h j) (check_rename s h text j title) (λ p. renamed_to s p.0 p.1 (rename_edit s c p.0 p.1 p.2 p.3 title))
      (λ p e. rename_edit_lem h text j title p.0 p.1 p.2 p.3 w (rename_passed s h text j title p e))

  -- ---- LINK
  link_edit_lem : (h g text : List ℕ) (o d n : ℕ) → Below 256 text → LinkPassed s h g text o d n → StillGood s (link_edit s c o d n text)
  unfolding link_edit
  link_edit_lem h g text o d n w p =
      let l = p.reached.below in
      let below = p.directory_reached.below in
      let t₁ = set_attributes s c.clock o only_ctime in
      let r₁ = set_attributes_still s records c.clock o only_ctime l p.reached.live k only_ctime_fits only_ctime_allowed in
      let b₁ = (set_attributes_structure s c.clock o only_ctime records.sound l (clock_fits c.clock k) only_ctime_fits).tree in
      let t₂ = add_name t₁ n o d text in
      let n₁ : n < names t₁ = rw r₁.shape.names p.name_below in
      let d₁ = below_after s t₁ r₁ d below in
      let o₁ = below_after s t₁ r₁ o l in
      let kind₁ = b₁.kind d below ∙ p.directory in
      let r₂ = still_trans s t₁ t₂ r₁ (add_name_still t₁ r₁.good n o d text n₁ o₁ (rw (b₁.kind o l) p.reached.live) d₁ kind₁ p.good w) in
      let shape = r₁.good.sound.shaped in
      let e₂ = add_name_lem t₁ n d text r₁.good.sound n₁ (omega arith) p.good.short w o (omega arith) in
      touch_after s t₂ r₂ c d k below (ap (λ (q : Object). q.kind) (e₂.each_object d d₁) ∙ b₁.kind d below) p.directory

  link_good : (h g text : List ℕ) → Below 256 text → StillGood s (link s c h g text).store
  unfolding link
  link_good h g text w =
      settle_good (fail_linking s h g) (check_link s h g text) (λ p. linked_to s p.0 p.1 (link_edit s c p.0 p.1 p.2 text))
      (λ p e. link_edit_lem h g text p.0 p.1 p.2 w (link_passed s h g text p e))

  -- ---- every call
  as_it_was : (t : Store) → t ≡ s → StillGood s t
  as_it_was t e = rw e (still_refl s records)

  pub act_good : (call : List ℕ) (a : Arguments) → Below 256 call → FitsArguments a → StillGood s (act s c call a).store
  unfolding act
  act_good call Arguments.Null w f = still_refl s records
  act_good call (Arguments.Getattr h) w f = as_it_was _ (getattr_store s (cut call h))
  act_good call (Arguments.Setattr h a g) w f = setattr_good (cut call h) a g f
  act_good call (Arguments.Lookup p) w f = as_it_was _ (lookup_store s (cut call p.directory) (cut call p.name))
  act_good call (Arguments.Access h bits) w f = as_it_was _ (access_store s (cut call h) bits)
  act_good call (Arguments.Read h offset count) w f = as_it_was _ (read_store s (cut call h) offset count)
  act_good call (Arguments.Write h offset count bytes) w f = write_good (cut call h) offset count (cut call bytes) (cut_below call bytes w)
  act_good call (Arguments.Create p manner) w f = create_good (cut call p.directory) (cut call p.name) manner (cut_below call p.name w) f
  act_good call (Arguments.Mkdir p a) w f = mkdir_good (cut call p.directory) (cut call p.name) a (cut_below call p.name w) f
  act_good call (Arguments.Remove p) w f = remove_good (cut call p.directory) (cut call p.name)
  act_good call (Arguments.Rmdir p) w f = rmdir_good (cut call p.directory) (cut call p.name)
  act_good call (Arguments.Rename p q) w f =
      rename_good (cut call p.directory) (cut call p.name) (cut call q.directory) (cut call q.name) (cut_below call q.name w)
  act_good call (Arguments.Link h p) w f = link_good (cut call h) (cut call p.directory) (cut call p.name) (cut_below call p.name w)
  act_good call (Arguments.Readdir h cookie verifier count) w f = as_it_was _ (readdir_store s (cut call h) cookie verifier count)
  act_good call (Arguments.Fsstat h) w f = as_it_was _ (fsstat_store s (cut call h))
  act_good call (Arguments.Fsinfo h) w f = as_it_was _ (fsinfo_store s (cut call h))
  act_good call (Arguments.Pathconf h) w f = as_it_was _ (pathconf_store s (cut call h))
  act_good call (Arguments.Commit h) w f = as_it_was _ (commit_store s (cut call h) c)
  act_good call Arguments.Unserved w f = still_refl s records

-- the entry: for a valid store of bytes and a call of bytes, whatever the answer
pub serve_good : (call : List ℕ) (s : Store) (space : List ℕ) (c : Context) → Valid s → Below 256 s → Below 256 call → c.clock.seconds < 2 ^ 32
    → StillGood s (serve call s space c).store
serve_good call s space c v b w h =
    ⊎_elim
    (λ (e : (serve call s space c).store ≡ s). rw e (still_refl s (valid_records s v b)))
    (λ (r : Ran call s space c). rw r.outcome
    (act_good s c v b (record { seconds = h; nanoseconds = r.clock_valid }) call r.asked w
    (arguments_fit r.head.procedure call w r.at r.asked r.next r.asked_read)))
    (serve_ran call s space c)
