use mathlib.Core.Path.{◌≡◌, sym, ap, ◌∙◌}
use Prim.Native.Nat.{ℕ, ◌+◌, ◌-◌}
use mathlib.Core.List.{List}
use native.Mathlib.Omega.{arith}
use Rattle.spec.specs.Bytes.{part}
use Rattle.mount_path.proofs.Walks.{walk_step, walk_ended}
use borrow.Author.Rules.{rules}
use Rattle.mount_path.proofs.walk_path.Goals as goal

-- a path in the call, by its end
by_end : (call : List ℕ) (start length : ℕ) → part call start length ≡ part call start (start + length - start)
by_end call start length = let n : length ≡ start + length - start = omega arith in ap (part call start) n

pub returns-in_err-o-clause-result_value : goal.returns-in_err-o-clause-result_value
returns-in_err-o-clause-result_value c = let a = c.args in
    let whole = walk_step a.store.now a.call.now _ (a.path.start + a.path.length) c.loop-from.from c.component_end-at.result c.loop-from.o.0 c.enter.result
    c.loop-from.invariant.2 c.component_end-at.ensures c.enter.ensures.result_value in
    rw (by_end a.call.now a.path.start a.path.length) (search (rules, sym (rw c.in_err-o.was at whole)))

pub loop-from-preserved : goal.loop-from-preserved
loop-from-preserved c = let a = c.args in
    let whole = walk_step a.store.now a.call.now _ (a.path.start + a.path.length) c.loop-from.from c.component_end-at.result c.loop-from.o.0 c.enter.result
    c.loop-from.invariant.2 c.component_end-at.ensures c.enter.ensures.result_value in (
      rw c.in_ok-o.was at c.enter.ensures.in_store,
      omega arith,
      rw c.in_ok-o.was at whole,
    )

pub returns-clause-result_value : goal.returns-clause-result_value
returns-clause-result_value c = let a = c.args in rw (by_end a.call.now a.path.start a.path.length)
    (sym (c.loop-from.invariant.2 ∙ walk_ended a.store.now a.call.now (a.path.start + a.path.length) c.loop-from.from c.loop-from.o.0 (omega arith)))
