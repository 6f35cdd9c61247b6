-- A name's length: where its bytes decide, and a text that is too long. Assumes nothing.
use mathlib.Core.Path.{◌≡◌, refl}
use mathlib.Core.Bool.{Bool, true, false, ◌&&◌, not}
use mathlib.Core.List.{List}
use Prim.Native.Nat.{ℕ, ◌+◌, ◌≤◌, ◌<◌}
use native.Mathlib.Omega.{arith}
use lib.Dec.{leb}
use lib.ListN.{length, length-take, length-drop}
use borrow.Author.Tests.{le-leb, lt-leb}
use Rattle.kinds.specs.Numbers.{most_name_bytes}
use Rattle.spec.specs.Bytes.{part}
use Rattle.spec.specs.Names.{is_dots, good_bytes, good_name}

-- a name of 1 to 32 bytes
pub name_is : (xs : List ℕ) → 1 ≤ length xs → length xs ≤ most_name_bytes → good_name xs ≡ good_bytes xs && not (is_dots xs)
unfolding good_name
name_is xs l h = rw (le-leb 1 (length xs) l, le-leb (length xs) most_name_bytes h)

-- a text that is longer
and_no : (t u v : Bool) → t && false && u && v ≡ false
and_no true u v = refl
and_no false u v = refl

pub name_long : (xs : List ℕ) → most_name_bytes < length xs → good_name xs ≡ false
unfolding good_name
name_long xs h = rw (lt-leb (length xs) most_name_bytes h) (and_no (leb 1 (length xs)) (good_bytes xs) (not (is_dots xs)))

pub part_long : (b : List ℕ) (at n : ℕ) → at + most_name_bytes < length b → most_name_bytes < n → most_name_bytes < length (part b at n)
unfolding part
part_long b at n h l = simp (length-take, length-drop) (omega arith)
