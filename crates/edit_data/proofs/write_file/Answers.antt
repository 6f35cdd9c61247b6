use Prim.Native.Nat.{zero-le}
use mathlib.Core.Path.{◌≡◌, refl}
use native.Mathlib.Omega.{arith}
use Rattle.spec.specs.Bytes.{part}
use Rattle.spec.specs.Edits.{write_through, write_file}
use Rattle.edit_data.proofs.WrittenFile.{Writing, offset_low, written_shape, next_place, written_more}
use Rattle.edit_data.proofs.write_file.Goals as goal

pub loop-done-init : goal.loop-done-init
unfolding write_file write_through part
loop-done-init c = let a = c.args in
    let w : Writing a.store.now a.o.0 a.offset a.call.now a.start a.n =
    record { good = c.requires.good_records; below = c.requires.o_bound; live = c.requires.live; bytes = λ k. (c.type_inv.call k).fits; fits = c.requires.n_bound; long = c.requires.n_in_bounds } in
    (w, offset_low w, zero-le, refl)

pub byte_at-at-requires : goal.byte_at-at-requires
byte_at-at-requires c = let w = c.loop-done.invariant.0 in
    let h = w.good.sound.shaped in
    let b = w.below in
    let k = written_shape w c.loop-done.done c.loop-done.store c.loop-done.invariant.2 c.loop-done.invariant.3 in
    let q = next_place w c.loop-done.done c.loop-done.store (omega arith) c.loop-done.invariant.3 in
    record { object_length_in_bounds = omega arith; i_lt_most_file_bytes = omega arith; i_in_bounds = omega arith }

pub copy_bytes-requires : goal.copy_bytes-requires
copy_bytes-requires c = let w = c.loop-done.invariant.0 in
    let q = next_place w c.loop-done.done c.loop-done.store (omega arith) c.loop-done.invariant.3 in record { len_in_bounds = omega (arith, c.byte_at-at.ensures, c.smaller-chunk.ensures); len_in_bounds_2 = omega (arith, c.smaller-chunk.ensures, w.long) }

pub loop-done-preserved : goal.loop-done-preserved
loop-done-preserved c = (
  c.loop-done.invariant.0,
  c.loop-done.invariant.1,
  omega (arith, c.smaller-chunk.ensures),
  written_more c.loop-done.invariant.0 c.loop-done.done c.smaller-chunk.result c.loop-done.store c.copy_bytes.new.dst c.byte_at-at.result (omega arith) (omega (arith, c.smaller-chunk.ensures))
      (omega (arith, c.smaller-chunk.ensures)) c.loop-done.invariant.3 c.byte_at-at.ensures c.copy_bytes.ensures,
)

pub shape_of-store : goal.shape_of-store
shape_of-store c = (written_shape c.loop-done.invariant.0 c.loop-done.done c.loop-done.store c.loop-done.invariant.2 c.loop-done.invariant.3).long

pub returns : goal.returns
returns c = let e : c.loop-done.done ≡ c.args.n = omega arith in
    rw e at c.loop-done.invariant.3
