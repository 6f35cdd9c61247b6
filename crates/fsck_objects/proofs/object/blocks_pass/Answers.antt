use native.Mathlib.Omega.{arith}
use Rattle.fsck_objects.proofs.Passes.{told_false}
use Rattle.fsck_objects.proofs.Whole.{told_live}
use Rattle.fsck_objects.proofs.object.blocks_pass.Goals as goal

pub mark_fours-requires-clause-framed : goal.mark_fours-requires-clause-framed
mark_fours-requires-clause-framed c = c.requires.framed

pub mark_fours-requires-clause-live_at : goal.mark_fours-requires-clause-live_at
mark_fours-requires-clause-live_at c = c.requires.live_at

pub mark_fours-requires-clause-limit_value : goal.mark_fours-requires-clause-limit_value
mark_fours-requires-clause-limit_value c = c.requires.limit_value

pub mark_fours-requires-clause-marked_by : goal.mark_fours-requires-clause-marked_by
mark_fours-requires-clause-marked_by c = c.requires.marked_by

pub returns-then-not-mark_fours : goal.returns-then-not-mark_fours
returns-then-not-mark_fours c = told_false (c.mark_fours.ensures.no (c.if-not-mark_fours.true))

pub mark_last-requires-clause-framed : goal.mark_last-requires-clause-framed
mark_last-requires-clause-framed c = c.requires.framed

pub mark_last-requires-clause-live_at : goal.mark_last-requires-clause-live_at
mark_last-requires-clause-live_at c = c.requires.live_at

pub mark_last-requires-clause-limit_value : goal.mark_last-requires-clause-limit_value
mark_last-requires-clause-limit_value c = c.requires.limit_value

pub mark_last-requires-clause-marked_to : goal.mark_last-requires-clause-marked_to
mark_last-requires-clause-marked_to c = c.mark_fours.ensures.yes (c.if-not-mark_fours.false)

pub returns-then-not-mark_last : goal.returns-then-not-mark_last
returns-then-not-mark_last c = told_false (c.mark_last.ensures.no (c.if-not-mark_last.true))

pub rest_unused-requires : goal.rest_unused-requires
rest_unused-requires c = let l = c.requires.live_at in
    let m = c.mark_last.ensures.yes (c.if-not-mark_last.false) in
    record { object_length_in_bounds = omega (arith, l.below, c.requires.framed.inside); inside = c.requires.inside; count_le_file_blocks = l.most; count_value = l.needs; o_value = m.good }

pub returns : goal.returns
returns c = let a = c.args in
    let m = c.mark_last.ensures.yes (c.if-not-mark_last.false) in
    told_live a.store.now a.o.0 a.count _ c.rest_unused.result c.requires.live_at m c.rest_unused.ensures
