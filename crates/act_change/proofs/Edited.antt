-- What the edits of SETATTR and WRITE ask, and what they leave. Assumes nothing.
use Rattle.std.specs.Prelude.{Option, Some, None}
use Rattle.kinds.specs.declared.object.Time.{Time}
use Prim.Native.Nat.{ℕ, ◌+◌, ◌≤◌, ◌<◌, min}
use mathlib.Core.Path.{◌≡◌, refl}
use mathlib.Core.Logic.{◌≢◌}
use mathlib.Core.List.{List}
use native.Mathlib.Omega.{arith}
use lib.ListN.{length, take}
use Rattle.kinds.specs.Numbers.{most_transfer_bytes}
use Rattle.kinds.specs.declared.object.Context.{Context}
use Rattle.kinds.specs.declared.call.Part.{Part}
use Rattle.kinds.specs.declared.call.Settable.{Settable}
use Rattle.kinds.specs.declared.call.Arguments.TheVariants as Arguments
use Rattle.spec.specs.Checked.{passed}
use Rattle.spec.specs.Image.{Store, objects, blocks, object_at}
use Rattle.spec.specs.Procedures.{cut, act}
use Rattle.spec.specs.Procedures.Attributes.{resize_to, check_setattr, setattr_edit, setattr}
use Rattle.spec.specs.Procedures.Data.{check_write, write_store, write_done, write}
use Rattle.laws.proofs.ActGood.{act_good, regular_of}
use Rattle.laws.proofs.Bytes.{part_length}
use Rattle.laws.proofs.GoodRecords.{GoodRecords, StillGood, GoodClock, still_refl, live_at, resize_still}
use Rattle.laws.proofs.Passed.{SetattrPassed, WritePassed}
use Rattle.laws.proofs.Range.{Below}
use Rattle.laws.proofs.Resize.{resize_tree}
use Rattle.laws.proofs.SetAttributes.{FitsSettable}
use Rattle.laws.proofs.Valid.{Valid}
use Rattle.act_write.specs.MayWrite.{MayWrite}
use Rattle.act_change.specs.Makable.{Sizable}

-- ---- a size, where one is given
pub sized_still : (s : Store) (o : ℕ) (x : Option ℕ) → GoodRecords s → Sizable s o x → StillGood s (resize_to s o x)
sized_still s o None g z = still_refl s g
sized_still s o (Some n) g z = resize_still s g o n z.below (z.regular refl) z.small z.room

pub sized_kind : (s : Store) (o : ℕ) (x : Option ℕ) → GoodRecords s → Sizable s o x → (i : ℕ) → i < objects s → (object_at (resize_to s o x) i).kind
    ≡ (object_at s i).kind
sized_kind s o None g z i l = refl
sized_kind s o (Some n) g z i l =
    let r = z.regular refl in
    (resize_tree s o n g.sound z.below (live_at s g o z.below (omega arith)) z.small z.room).kind i l

-- ---- what the checks tell
pub setattr_sizable : (s : Store) (h : List ℕ) (a : Settable) (g : Option Time) (o : ℕ) → GoodRecords s → SetattrPassed s h a g o → Sizable s o a.size
setattr_sizable s h a g o r p =
    let l = p.reached.below in
    record {
      below = l;
      regular = λ given. regular_of (blocks s) (object_at s o) (live_at s r o l p.reached.live) (p.not_directory given);
      small = p.allowed.size;
      room = p.room;
    }

-- one call moves no more bytes than its data has
pub few_moved : (call : List ℕ) (p : Part) (count : ℕ) → p.start + p.length ≤ length call → count ≡ length (cut call p)
    → min count most_transfer_bytes ≤ p.length
few_moved call p count h e = omega (arith, part_length call p.start p.length h)

pub write_writable : (s : Store) (h : List ℕ) (offset count : ℕ) (bytes : List ℕ) (o : ℕ) → WritePassed s h offset count bytes o
    → (n : ℕ) → n ≡ min count most_transfer_bytes → n ≢ 0 → MayWrite s o offset n
write_writable s h offset count bytes o p n e z =
    let some : 0 < count = omega arith in
    record { below = p.reached.below; regular = p.regular; fits = rw e (p.fits some); room = rw e (p.room some) }

-- ---- the stores that are left
module _ (s : Store) (c : Context) (v : Valid s) (b : Below 256 s) (k : GoodClock c.clock) (call : List ℕ) (w : Below 256 call) where
  pub setattr_left : (h : Part) (a : Settable) (g : Option Time) (o : ℕ) → FitsSettable a → check_setattr s (cut call h) a g ≡ passed o
      → StillGood s (setattr_edit s c o a)
  unfolding act setattr
  setattr_left h a g o f e = rw e at (act_good s c v b k call (Arguments.Setattr h a g) w f)

  pub write_left : (h : Part) (offset count : ℕ) (bytes : Part) (o : ℕ) → check_write s (cut call h) offset count (cut call bytes) ≡ passed o
      → StillGood s (write_store s c o offset (take (min count most_transfer_bytes) (cut call bytes)))
  unfolding act write write_done
  write_left h offset count bytes o e = rw e at (act_good s c v b k call (Arguments.Write h offset count bytes) w tt)
