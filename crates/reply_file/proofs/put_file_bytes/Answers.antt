use native.Mathlib.Omega.{arith}
use lib.ListN.{length-replicate}
use Rattle.spec.specs.Bytes.{opaque_bytes}
use Rattle.laws.proofs.FileBytes.{read_file_length}
use Rattle.xdr.proofs.Wrote.{wrote_over, and_then}
use Rattle.reply_file.proofs.put_file_bytes.Goals as goal

pub overflow_cast-n : goal.overflow_cast-n
overflow_cast-n c = omega (arith, c.requires.readable.few)

pub put_runs-end-requires-clause-readable : goal.put_runs-end-requires-clause-readable
put_runs-end-requires-clause-readable c = c.requires.readable

pub put_runs-end-requires-clause-n_in_bounds : goal.put_runs-end-requires-clause-n_in_bounds
put_runs-end-requires-clause-n_in_bounds c = omega arith

pub returns : goal.returns
unfolding opaque_bytes
returns c = let a = c.args in
    let l = read_file_length a.store.now a.o.0 a.offset a.n in
    let z = wrote_over c.clear_bytes.ensures (length-replicate c.padding-zeros.result 0) (omega arith) in
    rw (l, ← c.padding-zeros.ensures)
    (and_then (and_then c.put_word-start.ensures
    c.put_runs-end.ensures) z)
