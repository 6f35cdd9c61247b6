use mathlib.Core.Path.{◌≡◌, refl, sym}
use mathlib.Core.Bool.{true}
use Prim.Native.Nat.{◌-◌, zero-le}
use native.Mathlib.Omega.{arith}
use lib.ListN.{get_or}
use borrow.Author.Tests.{lt-leb, le-leb}
use Rattle.spec.specs.Count.{every}
use Rattle.laws.proofs.Count.{every_more, every_fails}
use Rattle.convert.specs.Links.{has_one_name}
use Rattle.convert.proofs.named_once.Goals as goal

pub loop-o-init : goal.loop-o-init
unfolding every
loop-o-init c = refl

pub returns-then-links-o-gt1 : goal.returns-then-links-o-gt1
returns-then-links-o-gt1 c = let a = c.args in
    let o = c.loop-o.o in
    sym (every_fails (has_one_name a.links.now) o a.p (lt-leb (get_or a.links.now o 0) 1 c.if-links-o-gt1.true) c.loop-o-test.true)

pub loop-o-preserved : goal.loop-o-preserved
loop-o-preserved c = let a = c.args in
    let o = c.loop-o.o in
    every_more (has_one_name a.links.now) o c.loop-o.invariant (le-leb (get_or a.links.now o 0) 1 c.if-links-o-gt1.false)

pub returns : goal.returns
returns c = let e : c.loop-o.o ≡ c.args.p = omega arith in
    sym (rw e at c.loop-o.invariant)
