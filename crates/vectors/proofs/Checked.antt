-- What a store is whose check answers counts.
use Rattle.std.proofs.Common.{◌≡◌}
use Rattle.std.specs.Prelude.{Some}
use Rattle.spec.specs.Image.{Store}
use Rattle.spec.specs.Check.{passes}
use Rattle.laws.proofs.Range.{Below}
use Rattle.laws.proofs.GoodRecords.{GoodRecords, valid_records}
use Rattle.laws.proofs.Valid.{valid}
use Rattle.fsck.specs.Found.{counts_of, found_if}
use Rattle.fsck.specs.declared.shape.Counts.{Counts}
use Rattle.fsck.proofs.Verdict.{good_passes}

pub good_records : (s : Store) (k : Counts) → Some k ≡ found_if (passes s) (counts_of s) → Below 256 s → GoodRecords s
good_records s k e b = valid_records s (valid s (good_passes s k e)) b
