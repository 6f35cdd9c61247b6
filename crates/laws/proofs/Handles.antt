-- The laws of handles: which object one reaches, and that an object's own handle reaches it. Assumes nothing.
use mathlib.Core.Path.{◌≡◌, refl}
use mathlib.Core.List.{List}
use Prim.Native.Nat.{ℕ, ◌^◌, ◌<◌}
use native.Mathlib.Omega.{arith}
use lib.ListN.{length}
use borrow.Author.Tests.{lt-leb, eq-eqb}
use Rattle.spec.specs.Bytes.{part, bytes_of, be_at, words}
use Rattle.spec.specs.Checked.{passed}
use Rattle.spec.specs.Handles.{handle_of, reach, reach_directory}
use Rattle.spec.specs.Image.{Store, stamp, objects, object_at}
use Rattle.kinds.specs.Numbers.{DIRECTORY, handle_length}
use Rattle.laws.proofs.Bytes.{be_bytes}
use Rattle.laws.proofs.Kept.{Sound}
use Rattle.laws.proofs.Passed.{Reached}
use Rattle.laws.proofs.Range.{be_below}
use Rattle.laws.proofs.RecordRange.{object_at_fits}
use Rattle.laws.proofs.Valid.{Live, true_live, true_directory}

-- a handle with the stamp, and the number and generation of a live object, reaches that object
pub reached_passes : (s : Store) (h : List ℕ) (o : ℕ) → Reached s h o → reach s h ≡ passed o
unfolding reach
reached_passes s h o r =
    rw (
      eq-eqb (length h) handle_length r.handle_length_lem,
      r.is_object,
      lt-leb (objects s) o r.below,
      eq-eqb (be_at h 0 4) (stamp s) r.same_stamp,
      true_live s o r.live,
      eq-eqb (be_at h 8 4) (object_at s o).generation r.same_generation_lem,
    )

pub directory_passes : (s : Store) (h : List ℕ) (d : ℕ) → Reached s h d → (object_at s d).kind ≡ DIRECTORY → reach_directory s h ≡ passed d
unfolding reach_directory
directory_passes s h d r k = rw (reached_passes s h d r, true_directory s d k)

stamp_below : (s : Store) → Sound s → stamp s < 2 ^ 32
unfolding stamp
stamp_below s h = be_below s 4 4 h.bytes

pub own_handle : (s : Store) (o : ℕ) → Sound s → o < objects s → Live s o → Reached s (handle_of s o) o
unfolding handle_of words bytes_of be_at part
own_handle s o h l v =
    let w = h.shaped in
    record {
      handle_length_lem = refl;
      is_object = be_bytes 4 o (omega arith);
      below = l;
      same_stamp = be_bytes 4 (stamp s) (stamp_below s h);
      live = v;
      same_generation_lem = be_bytes 4 (object_at s o).generation (object_at_fits s o h.bytes).generation;
    }

pub reach_own : (s : Store) (o : ℕ) → Sound s → o < objects s → Live s o → reach s (handle_of s o) ≡ passed o
reach_own s o h l v = reached_passes s (handle_of s o) o (own_handle s o h l v)
