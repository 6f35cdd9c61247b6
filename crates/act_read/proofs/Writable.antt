-- The replies of READ can be written from the store that they are made from. Assumes nothing.
use Prim.Native.Nat.{ℕ, ◌<◌}
use mathlib.Core.Path.{◌≡◌}
use native.Mathlib.Omega.{arith}
use Rattle.spec.specs.Image.{Store, objects}
use Rattle.spec.specs.Procedures.Data.{read_length}
use Rattle.laws.proofs.GoodRecords.{GoodRecords}
use Rattle.results.specs.Writable.{Readable}

-- "n = min(count, 4096, bytes left)"
pub readable : (s : Store) (o offset count n : ℕ) → GoodRecords s → o < objects s → n ≡ read_length s o offset count → Readable s o offset n
unfolding read_length
readable s o offset count n g l e = record { good = g; object = l; few = omega arith; left = omega arith }
