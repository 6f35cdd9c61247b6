use native.Mathlib.Omega.{arith}
use Rattle.spec.specs.Bytes.{bytes_of}
use Rattle.laws.proofs.Bytes.{overlay_more, bytes_length}
use Rattle.spec.specs.Image.{time_bytes}
use Rattle.store_records.proofs.object.save_time.Goals as goal

pub returns : goal.returns
unfolding time_bytes
returns c = let a = c.args in
    overlay_more a.store.now a.at (bytes_of 4 a.t.seconds) (bytes_of 4 a.t.nanoseconds) _ _ 4 (omega arith) (bytes_length 4 _)
    c.put_u32.ensures c.put_u32-2.ensures
