use native.Mathlib.Omega.{arith}
use mathlib.Core.Path.{sym, ap, ◌∙◌}
use Rattle.spec.specs.Room.{need, size_of}
use Rattle.laws.proofs.Valid.{true_live, false_live}
use Rattle.fsck_objects.proofs.Whole.{fields_need, fields_size, bad_fields, free_passes, free_fails, counted_bad, counted_blocks}
use Rattle.fsck_objects.proofs.object.object_uses.Goals as goal

pub returns-then-not-good_free : goal.returns-then-not-good_free
returns-then-not-good_free c = let a = c.args in
    counted_bad (free_fails a.store.now a.o.0 c.requires.o_bound
    (false_live _ _ (sym c.kind_of.ensures ∙ c.if-kind_of-eq-FREE.true))
    (sym c.good_free.ensures ∙ c.if-not-good_free.true))

pub returns-then-kind_of-eq-FREE : goal.returns-then-kind_of-eq-FREE
returns-then-kind_of-eq-FREE c = let a = c.args in
    counted_blocks 0 (free_passes a.store.now a.o.0 a.used.now (omega (arith, c.requires.framed.inside))
    (false_live _ _ (sym c.kind_of.ensures ∙ c.if-kind_of-eq-FREE.true))
    (sym c.good_free.ensures ∙ c.if-not-good_free.false) c.requires.marked_by)

pub returns-then-not-good_fields : goal.returns-then-not-good_fields
returns-then-not-good_fields c = let a = c.args in
    counted_bad (bad_fields a.store.now a.o.0 c.requires.o_bound
    (true_live a.store.now a.o.0 (omega (arith, c.if-kind_of-eq-FREE.false, c.kind_of.ensures)))
    (sym c.good_fields.ensures ∙ c.if-not-good_fields.true))

pub need-count-requires : goal.need-count-requires
unfolding size_of
need-count-requires c = rw c.size_of.ensures (fields_size _ (sym c.good_fields.ensures ∙ c.if-not-good_fields.false))

pub blocks_pass-requires-clause-live_at : goal.blocks_pass-requires-clause-live_at
unfolding size_of
blocks_pass-requires-clause-live_at c =
    let f = sym c.good_fields.ensures ∙ c.if-not-good_fields.false in
    let e = c.need-count.ensures ∙ ap need c.size_of.ensures in
    record {
      below = c.requires.o_bound;
      live = true_live c.args.store.now c.args.o.0 (omega (arith, c.if-kind_of-eq-FREE.false, c.kind_of.ensures));
      fields = f;
      needs = e;
      most = rw e (fields_need _ f);
    }

pub returns-then-not-blocks_pass : goal.returns-then-not-blocks_pass
returns-then-not-blocks_pass c = counted_bad (c.blocks_pass.ensures.no (c.if-not-blocks_pass.true))

pub returns : goal.returns
returns c = counted_blocks _ (c.blocks_pass.ensures.yes (c.if-not-blocks_pass.false))
