-- What the calls ask of the store, the map and the clock.
use Rattle.std.specs.Prelude.{ℕ, List}
use Rattle.kinds.specs.declared.object.Context.{Context}
use Rattle.spec.specs.Image.{Store}
use Rattle.laws.proofs.GoodRecords.{GoodClock}
use Rattle.laws.proofs.Range.{Below}
use Rattle.laws.proofs.Valid.{Valid}
use Rattle.store_blocks.specs.Blocks.{UsedMap}

-- a valid store of bytes, the map of its used blocks, and a good clock
pub record Ready (s : Store) (used : List ℕ) (c : Context) : Type 0 where
  pub valid : Valid s
  pub bytes : Below 256 s
  pub map : UsedMap s used
  pub clock : GoodClock c.clock
