use mathlib.Core.Path.{◌≡◌}
use Prim.Native.Nat.{suc, ◌-◌}
use native.Mathlib.Omega.{arith}
use Rattle.laws.proofs.Bytes.{part_cons}
use Rattle.mount_spec.specs.Path.{starts_with_slash}
use Rattle.mount_path.proofs.starts_with_slash.Goals as goal

pub returns-then-path-ne0 : goal.returns-then-path-ne0
unfolding starts_with_slash
returns-then-path-ne0 c = let a = c.args in
    let n : a.path.length ≡ suc (a.path.length - 1) = omega arith in
    rw (n, part_cons a.call.now a.path.start (a.path.length - 1) (omega arith))
