-- The bytes of a name record, and the two objects that it joins.
use Rattle.std.specs.Prelude.{ℕ, ◌+◌, Bool, ◌&&◌, cond, eqb, ltb, get_or}
use Rattle.spec.specs.Image.{Store, objects}
use Rattle.spec.specs.Names.{good_byte}
use Rattle.spec.specs.Room.{is_directory, is_live}

-- o is the number of a directory, of a live object
unfoldable pub is_directory_in : Store → ℕ → Bool
is_directory_in s o = ltb o (objects s) && is_directory s o

unfoldable pub is_live_in : Store → ℕ → Bool
is_live_in s o = ltb o (objects s) && is_live s o

-- byte i of the 32 from `at` is one that a name may have, or 0 past its n bytes
abbrev pub is_text : Store → ℕ → ℕ → ℕ → Bool
is_text s at n i = cond (ltb i n) (good_byte (get_or s (at + i) 0)) (eqb (get_or s (at + i) 0) 0)
