-- Bytes of a file that lie one after the other in the store.
use Rattle.std.specs.Prelude.{ℕ, ◌+◌, ◌≤◌, ◌≡◌, length}
use Rattle.spec.specs.Bytes.{part}
use Rattle.spec.specs.Edits.{read_file}
use Rattle.spec.specs.Image.{Store}
use Rattle.spec.specs.Room.{byte_at}

-- n bytes of object o's file from byte i on are the n bytes of the store from where byte i lies
pub record Together (s : Store) (o i n : ℕ) : Type 0 where
  pub inside : byte_at s o i + n ≤ length s
  pub bytes : read_file s o i n ≡ part s (byte_at s o i) n
