use mathlib.Core.Path.{◌≡◌, sym, ap, ◌∙◌}
use Prim.Native.Nat.{◌+◌, ◌≤◌, ◌<◌}
use native.Mathlib.Omega.{arith}
use lib.ListN.{length}
use borrow.Author.Tests.{le-leb, lt-leb}
use Rattle.kinds.specs.Reading.{read_of}
use Rattle.spec.specs.Bytes.{padding}
use Rattle.spec.specs.Xdr.{opaque}
use Rattle.xdr.proofs.Fields.{bytes_fit, bytes_next, bytes_cut, padded_fits, padded_cut}
use Rattle.xdr.proofs.read.opaque.Goals as goal

pub returns-in_default : goal.returns-in_default
unfolding opaque
returns-in_default c = rw (← c.word.ensures, c.in_default.is)

pub returns-then-most-length : goal.returns-then-most-length
unfolding opaque
returns-then-most-length c = rw (← c.word.ensures, c.in-Ok.is, lt-leb _ _ c.if-most-length.true)

pub returns-in_default-bytes : goal.returns-in_default-bytes
unfolding opaque
returns-in_default-bytes c = let a = c.args in
    let s = a.s.now in
    let n = c.in-Ok.n in
    let at = c.in-Ok.c1.at in
    let cut : length s < at + (n + padding n) = omega (
      arith,
      bytes_cut _ s at _ (sym c.bytes.ensures ∙ ap read_of c.in_default-bytes.is),
      c.padding-rest.ensures,
    ) in
    rw (
      ← c.word.ensures,
      c.in-Ok.is,
      le-leb _ _ c.if-most-length.false,
    )
    (sym (padded_cut n (padding n) s at a.c.at cut))

pub returns : goal.returns
unfolding opaque
returns c = let a = c.args in
    let s = a.s.now in
    let n = c.in-Ok.n in
    let at = c.in-Ok.c1.at in
    let fits : at + (n + padding n) ≤ length s = omega (
      arith,
      bytes_fit _ s at _ _ (sym c.bytes.ensures ∙ ap read_of c.in-Ok-bytes.is),
      c.padding-rest.ensures,
    ) in
    let behind : c.in-Ok-bytes.next.at ≡ at + (n + padding n) =
    omega (
      arith,
      bytes_next _ s at _ _ (sym c.bytes.ensures ∙ ap read_of c.in-Ok-bytes.is),
      c.padding-rest.ensures,
    ) in
    rw (
      ← c.word.ensures,
      c.in-Ok.is,
      le-leb _ _ c.if-most-length.false,
      padded_fits n (padding n) s at fits,
      behind,
    )
