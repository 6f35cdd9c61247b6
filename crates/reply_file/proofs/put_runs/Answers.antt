use Prim.Native.Nat.{◌+◌, ◌-◌, ◌<◌}
use mathlib.Core.Path.{◌≡◌, refl}
use native.Mathlib.Omega.{arith}
use Rattle.spec.specs.Room.{size_of}
use Rattle.laws.proofs.FileBytes.{read_file_none}
use Rattle.laws.proofs.FileData.{read_parts}
use Rattle.xdr.proofs.Wrote.{wrote_none, and_then}
use Rattle.reply_file.proofs.Files.{object_in_lem, byte_few, run_in}
use Rattle.reply_file.proofs.put_runs.Goals as goal

pub loop-done-init : goal.loop-done-init
loop-done-init c = let a = c.args in
    (omega arith, rw (read_file_none a.store.now a.o.0 a.offset) (wrote_none a.reply.now a.at (omega arith)), refl)

pub overflow_add-i : goal.overflow_add-i
overflow_add-i c = let a = c.args in
    let f = c.requires.readable in
    let h : a.offset + c.loop-done.done < size_of a.store.now a.o.0 = omega (arith, f.left) in
    omega (arith, byte_few a.store.now a.o.0 (a.offset + c.loop-done.done) f.good f.object h)

pub overflow_sub-n : goal.overflow_sub-n
overflow_sub-n c = omega arith

pub byte_at-from-requires : goal.byte_at-from-requires
byte_at-from-requires c = let a = c.args in
    let f = c.requires.readable in
    let h : a.offset + c.loop-done.done < size_of a.store.now a.o.0 = omega (arith, f.left) in record { object_length_in_bounds = object_in_lem a.store.now a.o.0 0 f.good f.object; i_lt_most_file_bytes = byte_few a.store.now a.o.0 (a.offset + c.loop-done.done) f.good f.object h; i_in_bounds = omega (arith, run_in a.store.now a.o.0 (a.offset + c.loop-done.done) f.good f.object 1 h (omega arith)) }

pub put_bytes-next-requires-clause-len_in_bounds : goal.put_bytes-next-requires-clause-len_in_bounds
put_bytes-next-requires-clause-len_in_bounds c = omega (arith, c.run_length-run.ensures.upper_bound)

pub put_bytes-next-requires-clause-len_in_bounds_2 : goal.put_bytes-next-requires-clause-len_in_bounds_2
put_bytes-next-requires-clause-len_in_bounds_2 c = omega (arith, c.byte_at-from.ensures, c.run_length-run.ensures.together.inside)

pub overflow_add-done : goal.overflow_add-done
overflow_add-done c = omega (arith, c.run_length-run.ensures.upper_bound)

pub loop-done-smaller : goal.loop-done-smaller
loop-done-smaller c = omega (arith, c.run_length-run.ensures.lower_bound, c.run_length-run.ensures.upper_bound)

pub loop-done-preserved : goal.loop-done-preserved
loop-done-preserved c = let a = c.args in
    let n = c.run_length-run.result in (
      omega (arith, c.run_length-run.ensures.upper_bound),
      rw (read_parts a.store.now a.o.0 a.offset c.loop-done.done n, c.run_length-run.ensures.together.bytes)
          (and_then c.loop-done.invariant.1 (rw c.byte_at-from.ensures at c.put_bytes-next.ensures)),
      omega arith,
    )

pub shape_of-reply : goal.shape_of-reply
shape_of-reply c = c.loop-done.invariant.2

pub returns : goal.returns
returns c = let a = c.args in
    let e : c.loop-done.done ≡ a.n = omega arith in
    rw e at c.loop-done.invariant.1
