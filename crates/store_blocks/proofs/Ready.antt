-- What a store that calls may go to has. Assumes nothing.
use Prim.Native.Nat.{ℕ}
use mathlib.Core.List.{List}
use Rattle.kinds.specs.declared.object.Context.{Context}
use Rattle.spec.specs.Image.{Store}
use Rattle.laws.proofs.GoodRecords.{GoodRecords, valid_records}
use Rattle.store_blocks.specs.Ready.{Ready}

-- its records are good
pub ready_records : {s : Store} {used : List ℕ} {c : Context} → Ready s used c → GoodRecords s
ready_records {s} r = valid_records s r.valid r.bytes
