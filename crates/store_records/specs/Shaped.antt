-- What the store check gives of a store's counts and of its name records. Functions that walk through records ask for it. `Shaped`, counts in
-- range and exactly the length that they give, is a law's.
use Rattle.std.specs.Prelude.{ℕ, ◌≤◌, ◌<◌, ◌≡◌, true}
use Rattle.kinds.specs.Numbers.{most_name_bytes}
use Rattle.spec.specs.Image.{Store, objects, names, name_at, name_length}
use Rattle.spec.specs.Room.{is_used_name}
pub use Rattle.laws.proofs.Valid.{Shaped}

-- a name record states no more bytes than a name may have, and a used one names an object of the store, in one
pub record SoundNames (s : Store) : Type 0 where
  pub short : (n : ℕ) → n < names s → name_length s n ≤ most_name_bytes
  pub directory : (n : ℕ) → n < names s → is_used_name s n ≡ true → (name_at s n).directory < objects s
  pub child : (n : ℕ) → n < names s → is_used_name s n ≡ true → (name_at s n).child < objects s
