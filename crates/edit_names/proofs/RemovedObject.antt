-- The object that a used name record names, as it is removed. Assumes nothing.
use Prim.Native.Nat.{ℕ, ◌+◌, ◌-◌, ◌≤◌, ◌<◌}
use mathlib.Core.Path.{◌≡◌, refl, ap, ap₂, ◌∙◌}
use mathlib.Core.List.{List, ◌++◌}
use native.Mathlib.Omega.{arith}
use lib.ListN.{take}
use Rattle.kinds.specs.Layout.{mode_offset, object_length}
use Rattle.kinds.specs.Numbers.{most_file_bytes}
use Rattle.kinds.specs.Objects.{free_object}
use Rattle.kinds.specs.declared.object.Object.{Object}
use Rattle.spec.specs.Bytes.{part, bytes_of, zeros}
use Rattle.spec.specs.Edits.{clear_blocks, remove_object}
use Rattle.spec.specs.Image.{Store, objects, names, blocks, object_at, time_bytes, head_bytes, times_bytes, halves_bytes, verifier_bytes, object_bytes, put_object}
use Rattle.spec.specs.Image.{name_at, put_name, free_name}
use Rattle.spec.specs.Room.{size_of, need, held}
use Rattle.laws.proofs.BlockLists.{InRange, held_range}
use Rattle.laws.proofs.BlockWrites.{clear_blocks_lem}
use Rattle.laws.proofs.GoodRecords.{GoodRecords, live_at, used_at}
use Rattle.laws.proofs.Shape.{SameShape, same_trans}
use Rattle.laws.proofs.Valid.{LiveObject, Used, live_size}
use Rattle.laws.proofs.Writes.{object_written}

-- object o is the one that the used name record n names
pub record Removing (s : Store) (n o : ℕ) : Type 0 where
  pub good : GoodRecords s
  pub below : n < names s
  pub used : Used s n
  pub child : o ≡ (name_at s n).child

module _ {s : Store} {n o : ℕ} (r : Removing s n o) where
  pub child_below : o < objects s
  child_below = rw r.child (used_at s r.good n r.below r.used).0

  pub child_record : LiveObject (blocks s) (object_at s o)
  child_record = live_at s r.good o child_below (rw r.child (used_at s r.good n r.below r.used).1)

  pub child_size : size_of s o ≤ most_file_bytes
  unfolding size_of
  child_size = live_size (blocks s) (object_at s o) child_record

  -- its blocks: the first numbers of its record, as many as its size needs
  module _ (list : List ℕ) (size count : ℕ) (l : list ≡ (object_at s o).blocks) (z : size ≡ size_of s o) (c : count ≡ need size) where
    child_held : part list 0 (count - 0) ≡ held s o
    unfolding part held
    child_held =
        let e : count - 0 ≡ need (size_of s o) = omega arith in
        ap₂ take e l

    pub child_range : InRange (blocks s) (part list 0 (count - 0))
    child_range = rw child_held (held_range s o child_record)

    pub freed_shape : (t u : Store) (w : Object) → t ≡ clear_blocks s (part list 0 (count - 0)) → u ≡ put_object t o w → SameShape s u
    freed_shape t u w a b =
        let h : SameShape s t = rw a (clear_blocks_lem s (part list 0 (count - 0)) r.good.sound child_range).shape in
        let d = r.good.sound.shaped in
        let i = child_below in
        same_trans s t u h (rw b (object_written t o w (omega arith) (omega arith)).shape)

    pub removed : (t u x : Store) (g : ℕ) → g ≡ (object_at s o).generation → t ≡ clear_blocks s (part list 0 (count - 0)) → u ≡ put_object t o (free_object (g + 1))
        → x ≡ put_name u n free_name → x ≡ remove_object s n
    unfolding remove_object
    removed t u x g f a d e =
        rw (← r.child)
        (e ∙ ap (λ (y : Store). put_name y n free_name)
        (d ∙ ap₂ (λ (y : Store) (k : ℕ). put_object y o (free_object (k + 1))) (a ∙ ap (clear_blocks s) child_held) f))

-- the bytes of a free object
pub free_bytes_lem : (g : ℕ) → bytes_of 4 0 ++ bytes_of 4 g ++ zeros (object_length - mode_offset) ≡ object_bytes (free_object g)
unfolding object_bytes head_bytes times_bytes time_bytes halves_bytes verifier_bytes bytes_of
free_bytes_lem g = refl
