-- Format's answer, and what it leaves.
use Rattle.std.specs.Prelude.{ℕ, ◌-◌, ◌≡◌, cond, List, eqb, ltb, length}
use Rattle.kinds.specs.Layout.{stamp_offset, object_count_offset}
use Rattle.kinds.specs.Numbers.{nanoseconds_end}
use Rattle.kinds.specs.Objects.{root_object}
use Rattle.kinds.specs.declared.object.Time.{Time}
use Rattle.spec.specs.Bytes.{overlay, zeros, bytes_of}
use Rattle.spec.specs.Image.{Store, put_object, object_start}
use Rattle.spec.specs.Check.{good_counts, image_length}
use Rattle.spec.specs.Serve.{Written}

-- 3, then 6, then 0
unfoldable pub answer_for : ℕ → ℕ → ℕ → ℕ → ℕ → ℕ
answer_for length p q r nanoseconds = cond (ltb nanoseconds nanoseconds_end) (cond (good_counts p q r) (cond (eqb length (image_length p q r)) 0 6) 6) 3

-- the volume, the number of objects and the root, and all else zero
unfoldable pub front_of : Store → ℕ → ℕ → Time → Store
front_of s stamp p clock =
    overlay (put_object (overlay (overlay (overlay s 0 (bytes_of 4 1)) stamp_offset (bytes_of 4 stamp)) object_count_offset (bytes_of 4 p)) 0
    (root_object clock)) (object_start 1) (zeros (length s - object_start 1))

-- a number and a buffer are what an entry that writes a whole store gives
pub record Leaves (w : Written) (number : ℕ) (store : List ℕ) : Type 0 where
  pub answers : number ≡ w.number
  pub leaves : store ≡ w.store
