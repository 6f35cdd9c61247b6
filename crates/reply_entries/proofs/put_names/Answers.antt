use mathlib.Core.Path.{◌≡◌, refl}
use native.Mathlib.Omega.{arith}
use Rattle.spec.specs.Image.{names}
use Rattle.reply_entries.proofs.Runs.{entries_none, entries_append, entries_rest, above_none, above_more, name_room}
use Rattle.reply_entries.proofs.put_names.Goals as goal

pub loop-n-init : goal.loop-n-init
loop-n-init c = let a = c.args in (
  rw (above_none a.store.now a.cookie a.directory.0) (entries_none a.reply.now a.p (omega arith)),
  refl,
)

pub overflow_mul-start : goal.overflow_mul-start
overflow_mul-start c = let h = c.requires.good_records.sound.shaped in
    omega (arith, c.name_count-n-end.ensures)

pub overflow_add-start : goal.overflow_add-start
overflow_add-start c = let h = c.requires.good_records.sound.shaped in
    omega (arith, c.names_start-first.ensures, c.name_count-n-end.ensures)

pub put_name-q-requires : goal.put_name-q-requires
put_name-q-requires c = let a = c.args in
    record {
      good_records = c.requires.good_records;
      n_bound = omega (arith, c.name_count-n-end.ensures);
      at_value = omega (arith, c.names_start-first.ensures);
      n_in_bounds = name_room a.store.now a.cookie a.directory.0 c.loop-n.n (names a.store.now)
          (omega (arith, c.name_count-n-end.ensures)) c.loop-n.invariant.0 c.requires.store_in_bounds;
    }

pub loop-n-preserved : goal.loop-n-preserved
loop-n-preserved c = let a = c.args in (
  rw (above_more a.store.now a.cookie a.directory.0 c.loop-n.n)
      (entries_append _ _ c.loop-n.invariant.0 c.put_name-q.ensures),
  omega arith,
)

pub returns-then-q-eq0 : goal.returns-then-q-eq0
returns-then-q-eq0 c = let a = c.args in
    entries_rest a.store.now a.cookie a.directory.0 c.loop-n.n (names a.store.now)
    (omega (arith, c.name_count-n-end.ensures)) c.if-q-eq0.true c.loop-n.invariant.0

pub returns-after-loop-n : goal.returns-after-loop-n
returns-after-loop-n c = let e : c.loop-n.n ≡ names c.args.store.now = omega (arith, c.name_count-n-end.ensures) in
    rw e at c.loop-n.invariant.0
