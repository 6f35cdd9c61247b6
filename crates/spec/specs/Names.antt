-- What a name may be, in a store and in a call.
use Rattle.std.specs.Prelude.{ℕ, List, [], ◌∷◌, Bool, ◌&&◌, ◌||◌, not, eqb, leb, length}
use Rattle.kinds.specs.Numbers.{most_name_bytes}
use Rattle.spec.specs.Bytes.{same_bytes, all_bytes}

-- "." and ".."
unfoldable pub is_dot : List ℕ → Bool
is_dot text = same_bytes text (0x2E ∷ [])

unfoldable pub is_dot_dot : List ℕ → Bool
is_dot_dot text = same_bytes text (0x2E ∷ 0x2E ∷ [])

abbrev pub is_dots : List ℕ → Bool
is_dots text = is_dot text || is_dot_dot text

-- "without 0 or 0x2F"
unfoldable pub good_byte : ℕ → Bool
good_byte x = not (eqb x 0) && not (eqb x 0x2F)

unfoldable pub good_bytes : List ℕ → Bool
good_bytes text = all_bytes good_byte text

-- "used names 1 to 32 bytes, .. without 0 or 0x2F, not "." or "..""
unfoldable pub good_name : List ℕ → Bool
good_name text = leb 1 (length text) && leb (length text) most_name_bytes && good_bytes text && not (is_dots text)
