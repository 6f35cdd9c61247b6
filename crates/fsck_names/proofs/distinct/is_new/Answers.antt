use Rattle.fsck_names.proofs.Chained.{walk_start, walk_step, walk_less, used_before}
use native.Mathlib.Omega.{arith}
use mathlib.Core.Path.{◌∙◌}
use Prim.Native.Nat.{◌-◌}
use Rattle.fsck_names.proofs.distinct.is_new.Goals as goal

pub loop-k-init : goal.loop-k-init
loop-k-init c = walk_start c.args.store.now c.requires.framed c.args.n.0 c.args.h c.requires.new c.from-k.result
    (c.from-k.ensures ∙ c.requires.chains.heads c.args.h c.requires.new.small)

pub same_name-found-requires : goal.same_name-found-requires
same_name-found-requires c = let w = c.requires.new in record {
  framed = c.requires.framed;
  p_value = c.requires.p_value;
  m_bound = omega (arith, c.loop-k.invariant.most, w.below);
  n_bound = w.below;
  used_name = used_before c.args.store.now c.requires.framed c.args.n.0 c.args.h w (c.loop-k.k - 1)
      (omega (arith, c.loop-k.invariant.most)) (c.loop-k.invariant.at c.loop-k-test.true).0;
  used_name_2 = w.itself;
}

pub loop-k-smaller : goal.loop-k-smaller
loop-k-smaller c = walk_less c.args.store.now c.requires.framed c.args.n.0 c.args.h c.requires.new c.loop-k.k c.from-k-in-loop-k.result
    c.loop-k-test.true
    (c.from-k-in-loop-k.ensures ∙ c.requires.chains.nexts (c.loop-k.k - 1) (omega (arith, c.loop-k.invariant.most))
    (c.loop-k.invariant.at c.loop-k-test.true).0)

pub loop-k-preserved : goal.loop-k-preserved
loop-k-preserved c = rw c.same_name-found.ensures
    (walk_step c.args.store.now c.requires.framed c.args.n.0 c.args.h c.requires.new c.loop-k.k c.from-k-in-loop-k.result c.loop-k.found
    c.loop-k-test.true c.loop-k.invariant
    (c.from-k-in-loop-k.ensures ∙ c.requires.chains.nexts (c.loop-k.k - 1) (omega (arith, c.loop-k.invariant.most))
    (c.loop-k.invariant.at c.loop-k-test.true).0))

pub returns : goal.returns
returns c = let w = c.loop-k.invariant.told in
    record { yes = λ e m h. w.yes e m (omega (arith, c.loop-k-test.false)) h; no = w.no }
