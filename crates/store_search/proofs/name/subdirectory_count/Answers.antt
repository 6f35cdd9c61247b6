use mathlib.Core.Bool.{◌&&◌}
use Rattle.spec.specs.Count.{sum}
use Rattle.spec.specs.Image.{names, name_at}
use Rattle.spec.specs.Room.{is_in, is_directory, subdirectories}
use Rattle.store_search.proofs.Counted.{counted}
use native.Mathlib.Omega.{arith}
use mathlib.Core.Path.{◌≡◌, refl}
use Prim.Native.Nat.{zero-le}
use Rattle.store_search.proofs.name.subdirectory_count.Goals as goal

pub loop-i-init : goal.loop-i-init
unfolding sum
loop-i-init c = (zero-le, refl)

pub loop-i-preserved : goal.loop-i-preserved
loop-i-preserved c = let s = c.args.store.now in
    let d = c.args.directory.0 in
    counted (λ n. is_in s d n && is_directory s (name_at s n).child) c.loop-i.i c.loop-i.found _ _ c.loop-i.invariant.1 c.loop-i.invariant.0 c.from-found.ensures c.is_subdirectory.ensures

pub returns : goal.returns
unfolding subdirectories
returns c = let e : c.loop-i.i ≡ names c.args.store.now = omega arith in
    rw e at c.loop-i.invariant.1
