-- What good records give to the functions on single records. Assumes nothing.
use mathlib.Core.Logic.{◌⊎◌}
use Prim.Native.Nat.{ℕ, ◌≤◌, ◌<◌}
use mathlib.Core.Path.{◌≡◌, ap}
use mathlib.Core.Bool.{true, ◌&&◌}
use native.Mathlib.Omega.{arith}
use Rattle.kinds.specs.Numbers.{most_file_bytes}
use Rattle.kinds.specs.declared.object.Object.{Object}
use Rattle.spec.specs.Image.{Store, objects, names, blocks, object_at, name_at}
use Rattle.spec.specs.Room.{is_directory, is_in, is_used_name, size_of, is_naming, namings, subdirectories}
use Rattle.laws.proofs.Count.{count_bound}
use Rattle.laws.proofs.GoodKept.{used_of}
use Rattle.laws.proofs.GoodRecords.{GoodRecords}
use Rattle.laws.proofs.Valid.{GoodObject, UsedName, live_size, used_true}
use Rattle.store_records.specs.Shaped.{Shaped, SoundNames}

small : (r : ℕ) (v : Object) → GoodObject r v → v.size ≤ most_file_bytes
small r v (◌⊎◌.inl f) = omega (arith, ap (λ (x : Object). x.size) f)
small r v (◌⊎◌.inr l) = live_size r v l

pub namings_few : (s : Store) (o : ℕ) → namings s o ≤ names s
unfolding namings
namings_few s o = count_bound (names s) (is_naming s o)

pub subdirectories_few : (s : Store) (d : ℕ) → subdirectories s d ≤ names s
unfolding subdirectories
subdirectories_few s d = count_bound (names s) (λ n. is_in s d n && is_directory s (name_at s n).child)

module _ (s : Store) (g : GoodRecords s) where
  pub good_shaped : Shaped s
  good_shaped = g.sound.shaped

  pub used_record : (n : ℕ) → n < names s → is_used_name s n ≡ true → UsedName s n
  used_record n l u = used_of s n (used_true s n u) (g.good_names n l)

  pub good_names_sound : SoundNames s
  good_names_sound =
      record { short = g.sound.short; directory = λ n l u. (used_record n l u).directory; child = λ n l u. (used_record n l u).child }

  pub size_few : (o : ℕ) → o < objects s → size_of s o ≤ most_file_bytes
  unfolding size_of
  size_few o l = small (blocks s) (object_at s o) (g.good_objects o l)
