-- What WRITE asks of a file.
use Rattle.std.specs.Prelude.{ℕ, ◌+◌, ◌-◌, ◌≤◌, ◌<◌, min, ◌≡◌, ◌≢◌}
use Rattle.kinds.specs.Numbers.{REGULAR, most_transfer_bytes, most_file_bytes}
use Rattle.spec.specs.Image.{Store, objects, object_at}
use Rattle.spec.specs.Room.{size_of, need, free_block_count}
use Rattle.spec.specs.Procedures.Data.{grown}

-- a file that may get n bytes at an offset
pub record MayWrite (s : Store) (o offset n : ℕ) : Type 0 where
  pub below : o < objects s
  pub regular : (object_at s o).kind ≡ REGULAR
  pub fits : offset + n ≤ most_file_bytes
  pub room : need (grown s o offset n) - need (size_of s o) ≤ free_block_count s

-- a file that may get as many bytes at an offset as a count asks for and one call moves, where that is not 0
pub record MayWriteSome (s : Store) (o offset count : ℕ) : Type 0 where
  pub some : (n : ℕ) → n ≡ min count most_transfer_bytes → n ≢ 0 → MayWrite s o offset n
