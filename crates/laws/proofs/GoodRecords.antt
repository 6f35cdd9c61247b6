-- Each edit keeps the demands of the store check on single records and on blocks. Assumes nothing.
use mathlib.Core.Path.{◌≡◌, refl, ap}
use mathlib.Core.Logic.{◌≢◌, ◌⊎◌}
use mathlib.Core.List.{List}
use Prim.Native.Nat.{ℕ, ◌+◌, ◌-◌, ◌^◌, ◌≤◌, ◌<◌}
use native.Mathlib.Omega.{arith}
use lib.ListN.{length}
use Rattle.kinds.specs.Numbers.{REGULAR, DIRECTORY, nanoseconds_end, most_file_bytes, spent_generation}
use Rattle.kinds.specs.declared.object.Time.{Time}
use Rattle.kinds.specs.declared.object.Object.{Object}
use Rattle.kinds.specs.declared.call.Settable.{Settable}
use Rattle.spec.specs.Edits.{set_attributes, forget_verifier, resize, add_name, create_object, drop_name, remove_object, move_name, write_file}
use Rattle.spec.specs.Image.{Store, objects, names, blocks, object_at, Name, name_at, free_name}
use Rattle.spec.specs.Room.{size_of, need, free_block_count}
use Rattle.laws.proofs.BlockLists.{held_range}
use Rattle.laws.proofs.BlockWrites.{write_file_lem}
use Rattle.laws.proofs.CreateObject.{create_object_lem, create_object_objects, create_object_names, create_object_blocks}
use Rattle.laws.proofs.GoodKept.{good_objects_kept, used_of}
use Rattle.laws.proofs.Kept.{Sound, NameSet, valid_sound}
use Rattle.laws.proofs.PutName.{new_name, put_name_objects, put_used_names, put_free_names, put_name_blocks, add_name_lem, drop_name_lem}
use Rattle.laws.proofs.Range.{Below}
use Rattle.laws.proofs.Records.{FitsTime, FitsObject}
use Rattle.laws.proofs.RemoveObject.{remove_object_lem, remove_object_objects, remove_object_names, remove_object_blocks}
use Rattle.laws.proofs.Resize.{resize_object, resize_objects, resize_blocks, resize_tree}
use Rattle.laws.proofs.SetAttributes.{FitsSettable, Allowed, set_attributes_lem, set_attributes_good, set_attributes_structure, forget_verifier_lem}
use Rattle.laws.proofs.SetAttributes.{forget_verifier_structure, forget_verifier_good}
use Rattle.laws.proofs.Shape.{SameShape, same_refl, same_trans}
use Rattle.laws.proofs.Structure.{kept_structure, tree_names, structure_blocks}
use Rattle.laws.proofs.Valid.{LiveObject, FreeObject, GoodObject, GoodObjects, GoodName, GoodNames, Live, Used, BlocksUsedOnce, Valid, live_kind}

-- a sound store whose objects and names are each good, and in which no block is used twice
pub record GoodRecords (s : Store) : Type 0 where
  pub sound : Sound s
  pub good_objects : GoodObjects s
  pub good_names : GoodNames s
  pub used_once : BlocksUsedOnce s

-- an edit that keeps the shape and leaves good records
pub record StillGood (s t : Store) : Type 0 where
  pub shape : SameShape s t
  pub good : GoodRecords t

-- a clock as the entries accept it
pub record GoodClock (t : Time) : Type 0 where
  pub seconds : t.seconds < 2 ^ 32
  pub nanoseconds : t.nanoseconds < nanoseconds_end

pub clock_fits : (t : Time) → GoodClock t → FitsTime t
clock_fits t h = record { seconds = h.seconds; nanoseconds = omega (arith, h.nanoseconds) }

pub valid_records : (s : Store) → Valid s → Below 256 s → GoodRecords s
valid_records s v b = record { sound = valid_sound s v b; good_objects = v.good_objects; good_names = v.good_names; used_once = v.used_once }

pub still_refl : (s : Store) → GoodRecords s → StillGood s s
still_refl s g = record { shape = same_refl s; good = g }

pub still_trans : (s t u : Store) → StillGood s t → StillGood t u → StillGood s u
still_trans s t u a b = record { shape = same_trans s t u a.shape b.shape; good = b.good }

-- ---- of a good object, by its type
pub live_of : (r : ℕ) (v : Object) → GoodObject r v → 0 < v.kind → LiveObject r v
live_of r v (◌⊎◌.inl f) h = absurd (omega (arith, ap (λ (x : Object). x.kind) f))
live_of r v (◌⊎◌.inr l) h = l

pub free_of : (r : ℕ) (v : Object) → GoodObject r v → v.kind ≡ 0 → FreeObject v
free_of r v (◌⊎◌.inl f) h = f
free_of r v (◌⊎◌.inr l) h = absurd (omega (arith, live_kind r v l))

module _ (s : Store) (g : GoodRecords s) where
  pub live_at : (o : ℕ) → o < objects s → Live s o → LiveObject (blocks s) (object_at s o)
  live_at o l v = live_of (blocks s) (object_at s o) (g.good_objects o l) v

  -- a free record's size is 0
  pub free_size : (o : ℕ) → o < objects s → (object_at s o).kind ≡ 0 → (object_at s o).size ≡ 0
  free_size o l k = ap (λ (x : Object). x.size) (free_of (blocks s) (object_at s o) (g.good_objects o l) k)

  pub used_at : (n : ℕ) → n < names s → Used s n → ((name_at s n).child < objects s) × Live s (name_at s n).child
  used_at n l u = let w = used_of s n u (g.good_names n l) in (w.child, w.child_live)

  -- ---- the edits
  pub set_attributes_still : (clock : Time) (o : ℕ) (a : Settable) → o < objects s → Live s o → GoodClock clock → FitsSettable a → Allowed a
      → StillGood s (set_attributes s clock o a)
  set_attributes_still clock o a l v c f w =
      let t = clock_fits clock c in
      let e = set_attributes_lem s clock o a g.sound l t f in
      let q = set_attributes_structure s clock o a g.sound l t f in
      record {
        shape = e.shape;
        good = record {
          sound = e.sound;
          good_objects = set_attributes_good s clock o a g.sound l t f c.nanoseconds w (live_at o l v) g.good_objects;
          good_names = tree_names s (set_attributes s clock o a) q.tree g.good_names;
          used_once = structure_blocks s (set_attributes s clock o a) q g.used_once;
        };
      }

  pub forget_verifier_still : (o : ℕ) → o < objects s → Live s o → StillGood s (forget_verifier s o)
  forget_verifier_still o l v =
      let e = forget_verifier_lem s o g.sound l in
      let q = forget_verifier_structure s o g.sound l in
      record {
        shape = e.shape;
        good = record {
          sound = e.sound;
          good_objects = forget_verifier_good s o g.sound l (live_at o l v) g.good_objects;
          good_names = tree_names s (forget_verifier s o) q.tree g.good_names;
          used_once = structure_blocks s (forget_verifier s o) q g.used_once;
        };
      }

  pub resize_still : (o size : ℕ) → o < objects s → (object_at s o).kind ≡ REGULAR → size ≤ most_file_bytes → need size - need (size_of s o) ≤ free_block_count s
      → StillGood s (resize s o size)
  resize_still o size l k small room =
      let v = live_at o l (omega arith) in
      let e = resize_object s o size g.sound l v small room in
      record {
        shape = e.shape;
        good = record {
          sound = e.sound;
          good_objects = resize_objects s o size g.sound l v small room k g.good_objects;
          good_names = tree_names s (resize s o size) (resize_tree s o size g.sound l v small room) g.good_names;
          used_once = resize_blocks s o size g.sound l v small room g.used_once;
        };
      }

  pub write_file_still : (o offset : ℕ) (xs : List ℕ) → o < objects s → Live s o → Below 256 xs → offset + length xs ≤ size_of s o
      → StillGood s (write_file s o offset xs)
  write_file_still o offset xs l v b k =
      let e = write_file_lem s o offset xs g.sound (live_at o l v) b k in
      let t = write_file s o offset xs in
      let q = kept_structure s t e in
      record {
        shape = e.shape;
        good = record {
          sound = e.sound;
          good_objects = good_objects_kept s t e.shape e.each_object g.good_objects;
          good_names = tree_names s t q.tree g.good_names;
          used_once = structure_blocks s t q g.used_once;
        };
      }

  pub create_object_still : (o n : ℕ) (v : Object) (d : ℕ) (text : List ℕ) → o < objects s → (object_at s o).kind ≡ 0 → (object_at s o).generation < spent_generation
      → n < names s → FitsObject v → LiveObject (blocks s) v → v.size ≡ 0 → d < objects s → (object_at s d).kind ≡ DIRECTORY → GoodName text → Below 256 text
      → StillGood s (create_object s o n v d text)
  create_object_still o n v d text l free low k f live empty below kind good b =
      let h = g.sound in
      let w = h.shaped in
      let c : d < 2 ^ 32 = omega arith in
      let e = create_object_lem s o n v d text h l k f c good.short b in
      record {
        shape = e.shape;
        good = record {
          sound = e.sound;
          good_objects = create_object_objects s o n v d text h l k f c good.short b live low g.good_objects;
          good_names = create_object_names s o n v d text h l k f c good.short b free live good below kind g.good_names;
          used_once = create_object_blocks s o n v d text h l k f c good.short b (free_size o l free) empty g.used_once;
        };
      }

  pub remove_object_still : (n : ℕ) → n < names s → Used s n
      → ((m : ℕ) → m < names s → m ≢ n → Used s m → ((name_at s m).child ≢ (name_at s n).child) × ((name_at s m).directory ≢ (name_at s n).child))
      → StillGood s (remove_object s n)
  remove_object_still n l u alone =
      let o = (name_at s n).child in
      let w = used_at n l u in
      let v = live_at o w.0 w.1 in
      let h = g.sound in
      let range = held_range s o v in
      let e = remove_object_lem s n o refl h l w.0 v.generation range in
      record {
        shape = e.shape;
        good = record {
          sound = e.sound;
          good_objects = remove_object_objects s n o refl h l w.0 v.generation range g.good_objects;
          good_names = remove_object_names s n o refl h l w.0 v.generation range alone g.good_names;
          used_once = remove_object_blocks s n o refl h l w.0 v.generation range g.used_once;
        };
      }

  -- name record n is another one, and every name record is good
  named_still : (n : ℕ) (x : Name) (t : Store) → NameSet s n x t → GoodNames t → StillGood s t
  named_still n x t e good =
      record {
        shape = e.shape;
        good = record {
          sound = e.sound;
          good_objects = put_name_objects s t n x e g.good_objects;
          good_names = good;
          used_once = put_name_blocks s t n x e g.used_once;
        };
      }

  pub add_name_still : (n o d : ℕ) (text : List ℕ) → n < names s → o < objects s → Live s o → d < objects s → (object_at s d).kind ≡ DIRECTORY → GoodName text
      → Below 256 text → StillGood s (add_name s n o d text)
  add_name_still n o d text l k live below kind good b =
      let h = g.sound in
      let q = h.shaped in
      let x = new_name o d text in
      let t = add_name s n o d text in
      let e = add_name_lem s n d text h l (omega arith) good.short b o (omega arith) in
      named_still n x t e (put_used_names s t n x e good below kind k live g.good_names)

  pub move_name_still : (n d : ℕ) (text : List ℕ) → n < names s → Used s n → d < objects s → (object_at s d).kind ≡ DIRECTORY → GoodName text → Below 256 text
      → StillGood s (move_name s n d text)
  unfolding move_name
  move_name_still n d text l u = let w = used_at n l u in add_name_still n (name_at s n).child d text l w.0 w.1

  pub drop_name_still : (n : ℕ) → n < names s → StillGood s (drop_name s n)
  drop_name_still n l =
      let e = drop_name_lem s n g.sound l in
      named_still n free_name (drop_name s n) e (put_free_names s (drop_name s n) n free_name e refl g.good_names)
