-- A name is removed, and with its last name the object. Assumes nothing.
use mathlib.Core.Path.{◌≡◌, refl}
use mathlib.Core.Logic.{◌≢◌}
use mathlib.Core.Bool.{true, false}
use Prim.Native.Nat.{ℕ, ◌+◌, ◌<◌}
use native.Mathlib.Omega.{arith}
use lib.Dec.{ltb}
use borrow.Author.Tests.{ltb-false}
use Rattle.kinds.specs.Objects.{free_object}
use Rattle.kinds.specs.declared.object.Time.{Time}
use Rattle.kinds.specs.declared.object.Object.{Object}
use Rattle.spec.specs.Edits.{with_attributes, set_attributes, only_ctime, drop_name, remove_object, remove_name}
use Rattle.spec.specs.Image.{Store, names, object_at, name_at, free_name}
use Rattle.spec.specs.Room.{namings}
use Rattle.laws.proofs.BlockLists.{held_range}
use Rattle.laws.proofs.Count.{by_bool}
use Rattle.laws.proofs.GoodRecords.{GoodRecords, StillGood, GoodClock, clock_fits, still_trans, live_at, used_at, set_attributes_still}
use Rattle.laws.proofs.GoodRecords.{remove_object_still, drop_name_still}
use Rattle.laws.proofs.Kept.{BothSet, object_name}
use Rattle.laws.proofs.PutName.{drop_name_lem}
use Rattle.laws.proofs.RemoveObject.{remove_object_lem}
use Rattle.laws.proofs.SetAttributes.{only_ctime_fits, only_ctime_allowed, set_attributes_lem}
use Rattle.laws.proofs.Unique.{one_naming}
use Rattle.laws.proofs.Valid.{Used}

-- the name record is free, and the object a free one or one that keeps all but its ctime
pub record NameRemoved (s : Store) (n : ℕ) (t : Store) : Type 0 where
  pub object : Object
  pub set : BothSet s (name_at s n).child object n free_name t

module _ (s : Store) (g : GoodRecords s) (clock : Time) (n : ℕ) (c : GoodClock clock) (l : n < names s) (u : Used s n) where
  -- the object has other names
  pub remove_one : ltb 1 (namings s (name_at s n).child) ≡ true → remove_name s clock n ≡ drop_name (set_attributes s clock (name_at s n).child only_ctime) n
  unfolding remove_name
  remove_one t = rw t

  -- it has no other
  pub remove_last : ltb 1 (namings s (name_at s n).child) ≡ false → remove_name s clock n ≡ remove_object s n
  unfolding remove_name
  remove_last t = rw t

  -- the object keeps its record but for ctime, and the name record is free
  pub drop_set : BothSet s (name_at s n).child (with_attributes clock only_ctime (object_at s (name_at s n).child)) n free_name
      (drop_name (set_attributes s clock (name_at s n).child only_ctime) n)
  drop_set =
      let o = (name_at s n).child in
      let w = used_at s g n l u in
      let t = set_attributes s clock o only_ctime in
      let a = set_attributes_lem s clock o only_ctime g.sound w.0 (clock_fits clock c) only_ctime_fits in
      object_name s t (drop_name t n) o (with_attributes clock only_ctime (object_at s o)) n free_name w.0 a
      (drop_name_lem t n a.sound (rw a.shape.names l))

  pub remove_name_lem : NameRemoved s n (remove_name s clock n)
  remove_name_lem =
      let o = (name_at s n).child in
      let w = used_at s g n l u in
      let live = live_at s g o w.0 w.1 in
      by_bool (ltb 1 (namings s o))
      (λ t. rw (remove_one t) (record { object = with_attributes clock only_ctime (object_at s o); set = drop_set }))
      (λ t. rw (remove_last t) (record {
        object = free_object ((object_at s o).generation + 1);
        set = remove_object_lem s n o refl g.sound l w.0 live.generation (held_range s o live);
      }))

  -- the records stay good, where no name stands in the object
  pub remove_name_still : ((m : ℕ) → m < names s → Used s m → (name_at s m).directory ≢ (name_at s n).child) → StillGood s (remove_name s clock n)
  remove_name_still alone =
      let o = (name_at s n).child in
      let w = used_at s g n l u in
      let t = set_attributes s clock o only_ctime in
      by_bool (ltb 1 (namings s o))
      (λ q.
      let a = set_attributes_still s g clock o only_ctime w.0 w.1 c only_ctime_fits only_ctime_allowed in
      rw (remove_one q) (still_trans s t (drop_name t n) a (drop_name_still t a.good n (rw a.shape.names l))))
      (λ q. rw (remove_last q) (remove_object_still s g n l u (λ m i d j. (
        λ e. d (one_naming s m n (rw e (omega (arith, ltb-false 1 (namings s o) q))) i l j u e),
        alone m i j,
      ))))
