use native.Mathlib.Omega.{arith}
use Rattle.spec.specs.Bytes.{bytes_of}
use Rattle.laws.proofs.Bytes.{overlay_more, bytes_length}
use Rattle.store_records.proofs.object.save_verifier.Goals as goal

pub returns : goal.returns
returns c = let a = c.args in
    overlay_more a.store.now a.at (bytes_of 8 a.verifier) (bytes_of 4 a.flag) _ _ 8 (omega arith) (bytes_length 8 _)
    c.put_u64.ensures c.put_u32.ensures
