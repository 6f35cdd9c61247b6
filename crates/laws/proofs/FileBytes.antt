-- The bytes of a file that are read: how many there are, and none. Assumes nothing.
use mathlib.Core.Path.{◌≡◌, refl, ap}
use mathlib.Core.List.{[]}
use Prim.Native.Nat.{ℕ, zero, suc, ◌+◌}
use lib.ListN.{length}
use Rattle.spec.specs.Image.{Store}
use Rattle.spec.specs.Room.{byte_at}
use Rattle.spec.specs.Edits.{read_through, read_file}

through_length : (place : ℕ → ℕ) (s : Store) (i n : ℕ) → length (read_through place s i n) ≡ n
unfolding read_through
through_length place s i zero = refl
through_length place s i (suc n) = ap suc (through_length place s (i + 1) n)

pub read_file_length : (s : Store) (o offset n : ℕ) → length (read_file s o offset n) ≡ n
unfolding read_file
read_file_length s o offset n = through_length (byte_at s o) s offset n

pub read_file_none : (s : Store) (o offset : ℕ) → read_file s o offset 0 ≡ []
unfolding read_file read_through
read_file_none s o offset = refl
