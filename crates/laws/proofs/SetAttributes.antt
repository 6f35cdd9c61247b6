-- The first edit, an object's attributes and times, and the second, its verifier forgotten. Assumes nothing.
use Rattle.std.specs.Prelude.{Option, Some, None}
use mathlib.Core.Path.{◌≡◌, refl}
use mathlib.Core.Logic.{◌⊎◌}
use mathlib.Core.Bool.{Bool, true, false, ◌||◌, cond}
use Prim.Native.Nat.{ℕ, ◌^◌, ◌≤◌, ◌<◌}
use native.Mathlib.Omega.{arith}
use lib.Dec.{ltb, lit<, lit≤}
use borrow.Author.Tests.{ltb-false, leb-false}
use Rattle.kinds.specs.Numbers.{nanoseconds_end, most_file_bytes, most_mode}
use Rattle.kinds.specs.declared.object.Time.{Time}
use Rattle.kinds.specs.declared.object.Object.{Object}
use Rattle.kinds.specs.declared.call.SetTime.{SetTime}
use Rattle.kinds.specs.declared.call.SetTime.TheVariants as SetTime
use Rattle.kinds.specs.declared.call.Settable.{Settable}
use Rattle.spec.specs.Bytes.{part}
use Rattle.spec.specs.Edits.{number_set, time_set, with_attributes, set_attributes, only_ctime, mtime_and_ctime, with_verifier, forget_verifier}
use Rattle.spec.specs.Image.{Store, objects, blocks, block_start, object_at}
use Rattle.spec.specs.Procedures.Attributes.{is_given, size_set, number_over, bad_time, bad_attributes, or_server, size_touches}
use Rattle.laws.proofs.GoodKept.{good_objects_set}
use Rattle.laws.proofs.Kept.{Sound, ObjectSet, put_object_lem}
use Rattle.laws.proofs.RecordRange.{object_at_fits}
use Rattle.laws.proofs.Records.{FitsTime, FitsObject}
use Rattle.laws.proofs.Shape.{SameShape}
use Rattle.laws.proofs.Structure.{SameStructure, set_structure}
use Rattle.laws.proofs.Tests.{or_none}
use Rattle.laws.proofs.Valid.{GoodVerifier, LiveObject, GoodObjects}
use Rattle.laws.proofs.Writes.{object_written}

-- ---- attributes whose numbers fit their places, as those of the code's type do
abbrev pub FitsNumber : Option ℕ → Type 0
FitsNumber None = Unit {0}
FitsNumber (Some n) = n < 2 ^ 32

abbrev pub FitsSetTime : SetTime → Type 0
FitsSetTime SetTime.Keep = Unit {0}
FitsSetTime SetTime.ToServer = Unit {0}
FitsSetTime (SetTime.ToClient t) = FitsTime t

pub record FitsSettable (a : Settable) : Type 0 where
  pub mode : FitsNumber a.mode
  pub uid : FitsNumber a.uid
  pub gid : FitsNumber a.gid
  pub atime : FitsSetTime a.atime
  pub mtime : FitsSetTime a.mtime

number_fits : (x : Option ℕ) (old : ℕ) → FitsNumber x → old < 2 ^ 32 → number_set x old < 2 ^ 32
number_fits None old f h = h
number_fits (Some n) old f h = f

time_fits : (clock : Time) (x : SetTime) (old : Time) → FitsTime clock → FitsSetTime x → FitsTime old → FitsTime (time_set clock x old)
time_fits clock SetTime.Keep old c f h = h
time_fits clock SetTime.ToServer old c f h = c
time_fits clock (SetTime.ToClient t) old c f h = f

pub attributes_fit : (clock : Time) (a : Settable) (v : Object) → FitsTime clock → FitsSettable a → FitsObject v → FitsObject (with_attributes clock a v)
unfolding with_attributes
attributes_fit clock a v c f h =
    record {
      kind = h.kind;
      generation = h.generation;
      mode = number_fits a.mode v.mode f.mode h.mode;
      uid = number_fits a.uid v.uid f.uid h.uid;
      gid = number_fits a.gid v.gid f.gid h.gid;
      size = h.size;
      atime = time_fits clock a.atime v.atime c f.atime h.atime;
      mtime = time_fits clock a.mtime v.mtime c f.mtime h.mtime;
      ctime = c;
      long = h.long;
      halves = h.halves;
      verifier = h.verifier;
      exclusive = h.exclusive;
    }

-- those that set times only, and those that go with a size
pub only_ctime_fits : FitsSettable only_ctime
only_ctime_fits = record { mode = tt; uid = tt; gid = tt; atime = tt; mtime = tt }

pub mtime_and_ctime_fits : FitsSettable mtime_and_ctime
mtime_and_ctime_fits = record { mode = tt; uid = tt; gid = tt; atime = tt; mtime = tt }

-- what holds of the server's time and of a time that is set holds of the time that goes with a size
server_keeps : (P : SetTime → Type 0) (b : Bool) (x : SetTime) → P SetTime.ToServer → P x → P (cond b (or_server x) x)
server_keeps P false x h f = f
server_keeps P true SetTime.Keep h f = h
server_keeps P true SetTime.ToServer h f = h
server_keeps P true (SetTime.ToClient t) h f = f

pub size_touches_fits : (a : Settable) → FitsSettable a → FitsSettable (size_touches a)
unfolding size_touches
size_touches_fits a f =
    record {
      mode = f.mode;
      uid = f.uid;
      gid = f.gid;
      atime = f.atime;
      mtime = server_keeps (λ x. FitsSetTime x) (is_given a.size) a.mtime
          tt f.mtime;
    }

-- ---- attributes that the check of a store allows
abbrev pub AllowedMode : Option ℕ → Type 0
AllowedMode None = Unit {0}
AllowedMode (Some n) = n ≤ most_mode

abbrev pub AllowedTime : SetTime → Type 0
AllowedTime SetTime.Keep = Unit {0}
AllowedTime SetTime.ToServer = Unit {0}
AllowedTime (SetTime.ToClient t) = t.nanoseconds < nanoseconds_end

pub record Allowed (a : Settable) : Type 0 where
  pub mode : AllowedMode a.mode
  pub atime : AllowedTime a.atime
  pub mtime : AllowedTime a.mtime
  pub size : size_set a.size 0 ≤ most_file_bytes

allowed_mode : (x : Option ℕ) → number_over most_mode x ≡ false → AllowedMode x
allowed_mode None e = tt
allowed_mode (Some n) e = ltb-false most_mode n e

allowed_time : (x : SetTime) → bad_time x ≡ false → AllowedTime x
allowed_time SetTime.Keep e = tt
allowed_time SetTime.ToServer e = tt
allowed_time (SetTime.ToClient t) e = leb-false nanoseconds_end t.nanoseconds e

-- "INVAL for mode over 4,095, client nanoseconds of 1,000,000,000 or more, .. size over 8,192": what passes that test
pub allowed : (a : Settable) → bad_attributes a ≡ false → Allowed a
unfolding bad_attributes
allowed a e =
    let m = number_over most_mode a.mode in
    let x = bad_time a.atime in
    let y = bad_time a.mtime in
    let b = or_none (m || x || y) (ltb most_file_bytes (size_set a.size 0)) e in
    let c = or_none (m || x) y b.0 in
    let d = or_none m x c.0 in
    record {
      mode = allowed_mode a.mode d.0;
      atime = allowed_time a.atime d.1;
      mtime = allowed_time a.mtime c.1;
      size = ltb-false most_file_bytes (size_set a.size 0) b.1;
    }

pub only_ctime_allowed : Allowed only_ctime
only_ctime_allowed = record { mode = tt; atime = tt; mtime = tt; size = lit≤ tt }

pub mtime_and_ctime_allowed : Allowed mtime_and_ctime
mtime_and_ctime_allowed = record { mode = tt; atime = tt; mtime = tt; size = lit≤ tt }

pub size_touches_allowed : (a : Settable) → Allowed a → Allowed (size_touches a)
unfolding size_touches
size_touches_allowed a f =
    record { mode = f.mode; atime = f.atime; mtime = server_keeps (λ x. AllowedTime x) (is_given a.size) a.mtime tt f.mtime; size = f.size }

mode_allowed : (x : Option ℕ) (old : ℕ) → AllowedMode x → old ≤ most_mode → number_set x old ≤ most_mode
mode_allowed None old f h = h
mode_allowed (Some n) old f h = f

time_allowed : (clock : Time) (x : SetTime) (old : Time) → clock.nanoseconds < nanoseconds_end → AllowedTime x → old.nanoseconds < nanoseconds_end
    → (time_set clock x old).nanoseconds < nanoseconds_end
time_allowed clock SetTime.Keep old c f h = h
time_allowed clock SetTime.ToServer old c f h = c
time_allowed clock (SetTime.ToClient t) old c f h = f

-- a live object stays as the check demands
pub attributes_live : (r : ℕ) (clock : Time) (a : Settable) (v : Object) → clock.nanoseconds < nanoseconds_end → Allowed a
    → LiveObject r v → LiveObject r (with_attributes clock a v)
unfolding with_attributes
attributes_live r clock a v c f h =
    record {
      generation = h.generation;
      mode = mode_allowed a.mode v.mode f.mode h.mode;
      atime = time_allowed clock a.atime v.atime c f.atime h.atime;
      mtime = time_allowed clock a.mtime v.mtime c f.mtime h.mtime;
      ctime = c;
      size = h.size;
      verifier = h.verifier;
      held = h.held;
      rest = h.rest;
    }

-- ---- THE FIRST EDIT
module _ (s : Store) (clock : Time) (o : ℕ) (a : Settable) (h : Sound s) (l : o < objects s) where
  pub set_attributes_lem : FitsTime clock → FitsSettable a → ObjectSet s o (with_attributes clock a (object_at s o)) (set_attributes s clock o a)
  unfolding set_attributes
  set_attributes_lem c f = put_object_lem s o _ h l (attributes_fit clock a (object_at s o) c f (object_at_fits s o h.bytes))

  pub set_attributes_structure : FitsTime clock → FitsSettable a → SameStructure s (set_attributes s clock o a)
  unfolding with_attributes
  set_attributes_structure c f = set_structure s (set_attributes s clock o a) o (with_attributes clock a (object_at s o)) (set_attributes_lem c f) refl refl refl refl

  -- the shape stays, whatever is set
  pub set_attributes_shape : SameShape s (set_attributes s clock o a)
  unfolding set_attributes
  set_attributes_shape = (object_written s o (with_attributes clock a (object_at s o)) (omega (arith, h.shaped)) l).shape

  -- the bytes of the blocks stay
  pub set_attributes_data : (at n : ℕ) → block_start s 0 ≤ at → part (set_attributes s clock o a) at n ≡ part s at n
  unfolding set_attributes
  set_attributes_data = (object_written s o (with_attributes clock a (object_at s o)) (omega (arith, h.shaped)) l).blocks

  pub set_attributes_good : FitsTime clock → FitsSettable a → clock.nanoseconds < nanoseconds_end → Allowed a → LiveObject (blocks s) (object_at s o)
      → GoodObjects s → GoodObjects (set_attributes s clock o a)
  set_attributes_good c f n g v =
      let e = set_attributes_lem c f in
      good_objects_set s (set_attributes s clock o a) o (with_attributes clock a (object_at s o)) e.shape e.object e.other_objects
      (◌⊎◌.inr (attributes_live (blocks s) clock a (object_at s o) n g v))

-- ---- another verifier
pub verifier_fits : (verifier flag : ℕ) (v : Object) → verifier < 2 ^ 64 → flag < 2 ^ 32 → FitsObject v → FitsObject (with_verifier verifier flag v)
unfolding with_verifier
verifier_fits verifier flag v a b h =
    record {
      kind = h.kind;
      generation = h.generation;
      mode = h.mode;
      uid = h.uid;
      gid = h.gid;
      size = h.size;
      atime = h.atime;
      mtime = h.mtime;
      ctime = h.ctime;
      long = h.long;
      halves = h.halves;
      verifier = a;
      exclusive = b;
    }

-- a live object stays as the check demands, where the check allows the verifier
pub verifier_live : (r verifier flag : ℕ) (v : Object) → GoodVerifier (with_verifier verifier flag v) → LiveObject r v
    → LiveObject r (with_verifier verifier flag v)
unfolding with_verifier
verifier_live r verifier flag v g h =
    record {
      generation = h.generation;
      mode = h.mode;
      atime = h.atime;
      mtime = h.mtime;
      ctime = h.ctime;
      size = h.size;
      verifier = g;
      held = h.held;
      rest = h.rest;
    }

-- no verifier
pub no_verifier : (v : Object) → GoodVerifier (with_verifier 0 0 v)
unfolding with_verifier
no_verifier v = ◌⊎◌.inr (refl, refl)

-- ---- THE SECOND EDIT
module _ (s : Store) (o : ℕ) (h : Sound s) (l : o < objects s) where
  pub forget_verifier_lem : ObjectSet s o (with_verifier 0 0 (object_at s o)) (forget_verifier s o)
  unfolding forget_verifier
  forget_verifier_lem = put_object_lem s o _ h l (verifier_fits 0 0 (object_at s o) (lit< tt) (lit< tt) (object_at_fits s o h.bytes))

  pub forget_verifier_structure : SameStructure s (forget_verifier s o)
  unfolding with_verifier
  forget_verifier_structure = set_structure s (forget_verifier s o) o (with_verifier 0 0 (object_at s o)) forget_verifier_lem refl refl refl refl

  -- the bytes of the blocks stay
  pub forget_verifier_data : (at n : ℕ) → block_start s 0 ≤ at → part (forget_verifier s o) at n ≡ part s at n
  unfolding forget_verifier
  forget_verifier_data = (object_written s o (with_verifier 0 0 (object_at s o)) (omega (arith, h.shaped)) l).blocks

  pub forget_verifier_good : LiveObject (blocks s) (object_at s o) → GoodObjects s → GoodObjects (forget_verifier s o)
  forget_verifier_good v =
      let e = forget_verifier_lem in
      good_objects_set s (forget_verifier s o) o (with_verifier 0 0 (object_at s o)) e.shape e.object e.other_objects
      (◌⊎◌.inr (verifier_live (blocks s) 0 0 (object_at s o) (no_verifier (object_at s o)) v))
