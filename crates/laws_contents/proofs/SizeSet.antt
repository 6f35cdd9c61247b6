-- A size that a call may set. Assumes nothing.
use Rattle.std.specs.Prelude.{Option, Some, None}
use mathlib.Core.Path.{◌≡◌, refl}
use mathlib.Core.Logic.{◌≢◌}
use mathlib.Core.Bool.{true}
use Prim.Native.Nat.{ℕ, ◌-◌, ◌≤◌, ◌<◌}
use Rattle.kinds.specs.Numbers.{REGULAR, most_file_bytes}
use Rattle.spec.specs.Image.{Store, objects, object_at}
use Rattle.spec.specs.Procedures.Attributes.{is_given, size_set, resize_to}
use Rattle.spec.specs.Room.{size_of, need, free_block_count}
use Rattle.laws.proofs.ActGood.{resize_to_lem}
use Rattle.laws.proofs.GoodRecords.{GoodRecords, StillGood}
use Rattle.laws_contents.specs.Contents.{contents}
use Rattle.laws_contents.specs.Written.{sized_to}
use Rattle.laws_contents.proofs.Resize.{resize_contents, resize_others}

-- a size that may be set to object o: of a file, at most 8,192, and with room for its blocks
pub record MaySize (s : Store) (o : ℕ) (x : Option ℕ) : Type 0 where
  pub below : o < objects s
  pub regular : is_given x ≡ true → (object_at s o).kind ≡ REGULAR
  pub small : size_set x 0 ≤ most_file_bytes
  pub room : need (size_set x (size_of s o)) - need (size_of s o) ≤ free_block_count s

module _ (s : Store) (g : GoodRecords s) (o : ℕ) where
  -- the records stay good
  pub resize_to_still : (x : Option ℕ) → MaySize s o x → StillGood s (resize_to s o x)
  resize_to_still x m = (resize_to_lem s g o x m.below m.regular m.small m.room).0

  -- the contents are cut or padded, where a size is given
  pub resize_to_contents : (x : Option ℕ) → MaySize s o x → contents (resize_to s o x) o ≡ sized_to (contents s o) x
  resize_to_contents None m = refl
  resize_to_contents (Some n) m = resize_contents s g o n m.below (m.regular refl) m.small m.room

  -- every other file keeps its contents
  pub resize_to_others : (x : Option ℕ) → MaySize s o x → (p : ℕ) → p < objects s → p ≢ o → contents (resize_to s o x) p ≡ contents s p
  resize_to_others None m p l d = refl
  resize_to_others (Some n) m p l d = resize_others s g o n m.below (m.regular refl) m.small m.room p l d
