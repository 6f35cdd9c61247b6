use mathlib.Core.Path.{refl, sym}
use native.Mathlib.Omega.{arith}
use borrow.Author.Tests.{lt-ltb, le-ltb}
use lib.ListN.{get_or}
use Rattle.spec.specs.Image.{object_at}
use Rattle.spec.specs.Check.{most_names}
use Rattle.fsck_names.proofs.Parents.{few_names}
use Rattle.fsck_names.proofs.named.count_further.Goals as goal

pub returns-then-count-most_names : goal.returns-then-count-most_names
returns-then-count-most_names c = let a = c.args in
    record {
      is = sym (le-ltb (get_or a.links.now a.o.0 0) (most_names (object_at a.store.now a.o.0).kind) (omega (
        arith,
        c.if-count-most_names.true,
        c.most_names.ensures,
        c.from-count.ensures,
      )));
      map = refl;
    }

pub overflow_cast-links : goal.overflow_cast-links
overflow_cast-links c = let a = c.args in
    omega (arith, c.if-count-most_names.false, c.most_names.ensures, few_names (object_at a.store.now a.o.0).kind)

pub returns : goal.returns
returns c = let a = c.args in
    record {
      is = sym (lt-ltb (get_or a.links.now a.o.0 0) (most_names (object_at a.store.now a.o.0).kind) (omega (
        arith,
        c.if-count-most_names.false,
        c.most_names.ensures,
        c.from-count.ensures,
      )));
      map = rw c.from-count.ensures;
    }
