-- The seventh edit: an object is removed, and every other file keeps its contents. Assumes nothing.
use mathlib.Core.Path.{◌≡◌, refl, ap, ◌∙◌}
use mathlib.Core.Logic.{◌≢◌}
use Prim.Native.Nat.{ℕ, ◌+◌, ◌%◌, ◌≤◌, ◌<◌}
use native.Mathlib.Omega.{arith}
use native.Mathlib.Nat.{mod-lt}
use lib.Dec.{lit<, lit≤}
use Rattle.kinds.specs.Layout.{block_length}
use Rattle.kinds.specs.Objects.{free_object}
use Rattle.kinds.specs.declared.object.Object.{Object}
use Rattle.spec.specs.Bytes.{part}
use Rattle.spec.specs.Edits.{clear_blocks, remove_object}
use Rattle.spec.specs.Image.{Store, objects, names, block_start, object_at, put_object, name_at, free_name}
use Rattle.spec.specs.Room.{held, byte_at}
use Rattle.laws.proofs.BlockLists.{held_range}
use Rattle.laws.proofs.BlockWrites.{clear_blocks_lem}
use Rattle.laws.proofs.GoodRecords.{GoodRecords, live_at, used_at}
use Rattle.laws.proofs.Kept.{put_object_lem}
use Rattle.laws.proofs.RemoveObject.{free_fits, remove_object_lem}
use Rattle.laws.proofs.Valid.{Used}
use Rattle.laws.proofs.Writes.{object_written, name_written}
use Rattle.laws_contents.specs.Contents.{contents}
use Rattle.laws_contents.proofs.Laid.{byte_same}
use Rattle.laws_contents.proofs.Places.{block_of, place_after, block_other}
use Rattle.laws_contents.proofs.RecordEdits.{contents_kept}
use Rattle.laws_contents.proofs.Cleared.{clear_other}

module _ (s : Store) (g : GoodRecords s) (n : ℕ) (l : n < names s) (u : Used s n) where
  -- of the blocks, only those of the object change
  remove_object_data : (at m : ℕ) → block_start s 0 ≤ at → part (remove_object s n) at m ≡ part (clear_blocks s (held s (name_at s n).child)) at m
  unfolding remove_object
  remove_object_data at m z =
      let o = (name_at s n).child in
      let w = used_at s g n l u in
      let v = live_at s g o w.0 w.1 in
      let x = free_object ((object_at s o).generation + 1) in
      let t = clear_blocks s (held s o) in
      let c = clear_blocks_lem s (held s o) g.sound (held_range s o v) in
      let k : o < objects t = rw c.shape.objects w.0 in
      let a = put_object_lem t o x c.sound k (free_fits ((object_at s o).generation + 1) (omega (arith, v.generation))) in
      let e = c.shape in
      let f = a.shape in
      (name_written (put_object t o x) n free_name (omega (arith, a.sound.shaped)) (omega arith) (lit≤ tt)).blocks at m
      (rw (f.objects, f.names, e.objects, e.names) z)
      ∙ (object_written t o x (omega (arith, c.sound.shaped)) k).blocks at m (rw (e.objects, e.names) z)

  -- SEVENTH EDIT: every other file keeps its contents
  pub remove_object_others : (p : ℕ) → p < objects s → p ≢ (name_at s n).child → contents (remove_object s n) p ≡ contents s p
  unfolding byte_at
  remove_object_others p m d =
      let o = (name_at s n).child in
      let t = remove_object s n in
      let w = used_at s g n l u in
      let v = live_at s g o w.0 w.1 in
      let range = held_range s o v in
      let e = remove_object_lem s n o refl g.sound l w.0 v.generation range in
      let q = e.other_objects p m d in
      contents_kept s t e.shape p (ap (λ (x : Object). x.size) q) (ap (λ (x : Object). x.blocks) q) (λ k h.
      byte_same t (clear_blocks s (held s o)) (byte_at s p k) (remove_object_data (byte_at s p k) 1 (place_after s p k))
      ∙ clear_other s (held s o) g.sound range (block_of s p k) (k % block_length) (mod-lt k (lit< tt)) (block_other s g o p k w.0 m d h))
