-- The fifth edit: an object in a free record, named by a free name record. Assumes nothing.
use mathlib.Core.Path.{◌≡◌, ap, ◌∙◌}
use mathlib.Core.Logic.{by_cases, ◌⊎◌}
use mathlib.Core.List.{List, []}
use Prim.Native.Nat.{ℕ, ◌^◌, ◌≤◌, ◌<◌}
use native.Mathlib.Omega.{arith}
use native.Mathlib.Decide.{ℕ_discrete}
use lib.ListN.{length}
use Rattle.kinds.specs.Numbers.{DIRECTORY, spent_generation, most_name_bytes}
use Rattle.kinds.specs.declared.object.Object.{Object}
use Rattle.spec.specs.Bytes.{part}
use Rattle.spec.specs.Count.{times}
use Rattle.spec.specs.Edits.{with_generation, create_object}
use Rattle.spec.specs.Image.{Store, objects, names, blocks, block_start, object_at, put_object, name_at}
use Rattle.spec.specs.Room.{size_of, held, uses}
use Rattle.laws.proofs.GoodKept.{good_objects_set, record_kept, used_set, uses_object_set}
use Rattle.laws.proofs.Kept.{Sound, BothSet, put_object_lem, put_name_lem, object_name}
use Rattle.laws.proofs.PutName.{new_name}
use Rattle.laws.proofs.Range.{Below}
use Rattle.laws.proofs.RecordRange.{object_at_fits}
use Rattle.laws.proofs.Records.{FitsObject}
use Rattle.laws.proofs.Valid.{LiveObject, GoodObjects, GoodName, GoodNames, BlocksUsedOnce, live_kind}
use Rattle.laws.proofs.Writes.{object_written, name_written}

pub generation_fits : (g : ℕ) (v : Object) → g < 2 ^ 32 → FitsObject v → FitsObject (with_generation g v)
unfolding with_generation
generation_fits g v h f =
    record {
      kind = f.kind;
      generation = h;
      mode = f.mode;
      uid = f.uid;
      gid = f.gid;
      size = f.size;
      atime = f.atime;
      mtime = f.mtime;
      ctime = f.ctime;
      long = f.long;
      halves = f.halves;
      verifier = f.verifier;
      exclusive = f.exclusive;
    }

pub generation_live : (r g : ℕ) (v : Object) → g < spent_generation → LiveObject r v → LiveObject r (with_generation g v)
unfolding with_generation
generation_live r g v h f =
    record {
      generation = h;
      mode = f.mode;
      atime = f.atime;
      mtime = f.mtime;
      ctime = f.ctime;
      size = f.size;
      verifier = f.verifier;
      held = f.held;
      rest = f.rest;
    }

-- an object of size 0 has no blocks
pub no_blocks : (s : Store) (o : ℕ) → (object_at s o).size ≡ 0 → held s o ≡ []
unfolding held size_of
no_blocks s o e = rw e

module _ (s : Store) (o n : ℕ) (v : Object) (d : ℕ) (text : List ℕ) (h : Sound s) (l : o < objects s) (k : n < names s)
    (f : FitsObject v) (c : d < 2 ^ 32) (g : length text ≤ most_name_bytes) (b : Below 256 text) where
  -- the record that the object gets
  abbrev made : Object
  made = with_generation (object_at s o).generation v

  made_fits : FitsObject made
  made_fits = generation_fits (object_at s o).generation v (object_at_fits s o h.bytes).generation f

  pub create_object_lem : BothSet s o (with_generation (object_at s o).generation v) n (new_name o d text) (create_object s o n v d text)
  unfolding create_object
  create_object_lem =
      let a = put_object_lem s o made h l made_fits in
      let w = h.shaped in
      object_name s (put_object s o made) (create_object s o n v d text) o made n (new_name o d text) l a
      (put_name_lem (put_object s o made) n (new_name o d text) a.sound (rw a.shape.names k)
      (record { directory = c; child = omega arith; text = g }) b)

  -- the bytes of the blocks stay
  pub create_object_data : (at m : ℕ) → block_start s 0 ≤ at → part (create_object s o n v d text) at m ≡ part s at m
  unfolding create_object
  create_object_data at m z =
      let a = put_object_lem s o made h l made_fits in
      let e = a.shape in
      (name_written (put_object s o made) n (new_name o d text) (omega (arith, a.sound.shaped)) (rw e.names k) g).blocks at m (rw (e.objects, e.names) z)
      ∙ (object_written s o made (omega (arith, h.shaped)) l).blocks at m z

  -- a live object of a generation that may be given out
  pub create_object_objects : LiveObject (blocks s) v → (object_at s o).generation < spent_generation → GoodObjects s → GoodObjects (create_object s o n v d text)
  create_object_objects live low =
      good_objects_set s (create_object s o n v d text) o made create_object_lem.shape create_object_lem.object create_object_lem.other_objects
      (◌⊎◌.inr (generation_live (blocks s) (object_at s o).generation v low live))

  -- the record o was free, so no other name leads to it or from it
  pub create_object_names : (object_at s o).kind ≡ 0 → LiveObject (blocks s) v → GoodName text → d < objects s → (object_at s d).kind ≡ DIRECTORY
      → GoodNames s → GoodNames (create_object s o n v d text)
  unfolding with_generation
  create_object_names free live good below kind each m j =
      let e = create_object_lem in
      let t = create_object s o n v d text in
      let i : m < names s = rw e.shape.names at j in
      let stays : (p : ℕ) → p < objects s → 0 < (object_at s p).kind → (object_at t p).kind ≡ (object_at s p).kind = λ p q z.
      ap (λ (x : Object). x.kind) (e.other_objects p q (λ y. omega (arith, ap (λ (w : ℕ). (object_at s w).kind) y))) in
      let new_live : 0 < (object_at t o).kind = rw e.object (live_kind (blocks s) v live) in
      by_cases (ℕ_discrete m n)
      (λ q. rw q (◌⊎◌.inr (used_set t n (new_name o d text) e.name good (rw e.shape.objects below) (stays d below (omega arith) ∙ kind)
      (rw e.shape.objects l) new_live)))
      (λ q. record_kept s t m e.shape.objects (e.other_names m i q)
      (λ u. (
        stays (name_at s m).directory u.directory (omega (arith, u.in_directory_lem)),
        rw (stays (name_at s m).child u.child u.child_live) u.child_live,
      )) (each m i))

  -- a new object has no blocks
  pub create_object_uses : (object_at s o).size ≡ 0 → v.size ≡ 0 → (r : ℕ) → uses (create_object s o n v d text) r ≡ uses s r
  unfolding with_generation times
  create_object_uses old new r =
      let e = create_object_lem in
      let t = create_object s o n v d text in
      let u = uses_object_set s t o l e.shape.objects e.other_objects r in
      omega (arith, rw (no_blocks s o old, no_blocks t o (ap (λ (x : Object). x.size) e.object ∙ new)) at u)

  pub create_object_blocks : (object_at s o).size ≡ 0 → v.size ≡ 0 → BlocksUsedOnce s → BlocksUsedOnce (create_object s o n v d text)
  create_object_blocks old new once r j = rw (create_object_uses old new r) (once r (rw create_object_lem.shape.blocks at j))
