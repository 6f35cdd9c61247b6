-- The seventh edit: an object, its blocks and its name record are free. Assumes nothing.
use mathlib.Core.Path.{◌≡◌, refl, ap}
use mathlib.Core.Logic.{◌≢◌, by_cases, ◌⊎◌}
use mathlib.Core.List.{[]}
use Prim.Native.Nat.{ℕ, ◌+◌, ◌^◌, ◌<◌}
use native.Mathlib.Omega.{arith}
use native.Mathlib.Decide.{ℕ_discrete}
use lib.Dec.{lit<, lit≤}
use Rattle.kinds.specs.Numbers.{file_blocks, spent_generation}
use Rattle.kinds.specs.Objects.{free_object}
use Rattle.kinds.specs.declared.object.Object.{Object}
use Rattle.spec.specs.Count.{times}
use Rattle.spec.specs.Edits.{clear_blocks, remove_object}
use Rattle.spec.specs.Image.{Store, objects, names, blocks, object_at, put_object, name_at, free_name}
use Rattle.spec.specs.Room.{held, uses}
use Rattle.laws.proofs.BlockLists.{InRange}
use Rattle.laws.proofs.BlockWrites.{clear_blocks_lem}
use Rattle.laws.proofs.CreateObject.{no_blocks}
use Rattle.laws.proofs.GoodKept.{good_objects_set, record_kept, uses_object_set}
use Rattle.laws.proofs.Kept.{Sound, BothSet, put_object_lem, put_name_lem, kept_object, object_name}
use Rattle.laws.proofs.PutName.{free_set}
use Rattle.laws.proofs.Records.{FitsObject}
use Rattle.laws.proofs.Valid.{GoodObjects, GoodNames, Used, BlocksUsedOnce}
use Rattle.laws.proofs.WordRange.{below_same}

pub free_fits : (g : ℕ) → g < 2 ^ 32 → FitsObject (free_object g)
free_fits g h =
    record {
      kind = lit< tt;
      generation = h;
      mode = lit< tt;
      uid = lit< tt;
      gid = lit< tt;
      size = lit< tt;
      atime = record { seconds = lit< tt; nanoseconds = lit< tt };
      mtime = record { seconds = lit< tt; nanoseconds = lit< tt };
      ctime = record { seconds = lit< tt; nanoseconds = lit< tt };
      long = refl;
      halves = below_same (2 ^ 16) file_blocks 0 (lit< tt) (lit< tt);
      verifier = lit< tt;
      exclusive = lit< tt;
    }

module _ (s : Store) (n o : ℕ) (is : (name_at s n).child ≡ o) (h : Sound s) (l : n < names s) (k : o < objects s)
    (low : (object_at s o).generation < spent_generation) (range : InRange (blocks s) (held s o)) where
  pub remove_object_lem : BothSet s o (free_object ((object_at s o).generation + 1)) n free_name (remove_object s n)
  unfolding remove_object
  remove_object_lem =
      let v = free_object ((object_at s o).generation + 1) in
      let c = clear_blocks_lem s (held s o) h range in
      let t = clear_blocks s (held s o) in
      let a = put_object_lem t o v c.sound (rw c.shape.objects k) (free_fits ((object_at s o).generation + 1) (omega arith)) in
      let b = kept_object s t (put_object t o v) o v c a in
      rw is
      (object_name s (put_object t o v) _ o v n free_name k b
      (put_name_lem (put_object t o v) n free_name b.sound (rw b.shape.names l)
      (record { directory = lit< tt; child = lit< tt; text = lit≤ tt }) (λ i. lit< tt)))

  pub remove_object_objects : GoodObjects s → GoodObjects (remove_object s n)
  remove_object_objects =
      let e = remove_object_lem in
      good_objects_set s (remove_object s n) o (free_object ((object_at s o).generation + 1)) e.shape e.object e.other_objects (◌⊎◌.inl refl)

  -- no other name leads to the object or from it
  pub remove_object_names : ((m : ℕ) → m < names s → m ≢ n → Used s m → ((name_at s m).child ≢ o) × ((name_at s m).directory ≢ o))
      → GoodNames s → GoodNames (remove_object s n)
  remove_object_names alone each m j =
      let e = remove_object_lem in
      let t = remove_object s n in
      let i : m < names s = rw e.shape.names at j in
      let stays : (p : ℕ) → p < objects s → p ≢ o → (object_at t p).kind ≡ (object_at s p).kind = λ p q z.
      ap (λ (x : Object). x.kind) (e.other_objects p q z) in
      by_cases (ℕ_discrete m n)
      (λ q. rw q (◌⊎◌.inl (free_set t n e.name)))
      (λ q. record_kept s t m e.shape.objects (e.other_names m i q)
      (λ u. let a = alone m i q (omega (arith, u.exact, u.good.some_byte)) in (
        stays (name_at s m).directory u.directory a.1,
        rw (stays (name_at s m).child u.child a.0) u.child_live,
      )) (each m i))

  removed_held : held (remove_object s n) o ≡ []
  removed_held = no_blocks (remove_object s n) o (ap (λ (x : Object). x.size) remove_object_lem.object)

  -- each of its blocks serves one place less
  pub remove_object_uses : (r : ℕ) → uses (remove_object s n) r + times r (held s o) ≡ uses s r
  unfolding times
  remove_object_uses r =
      let e = remove_object_lem in
      let t = remove_object s n in
      omega (arith, rw removed_held at (uses_object_set s t o k e.shape.objects e.other_objects r))

  pub remove_object_blocks : BlocksUsedOnce s → BlocksUsedOnce (remove_object s n)
  remove_object_blocks once r j =
      let u = remove_object_uses r in
      let q = once r (rw remove_object_lem.shape.blocks at j) in
      omega arith
