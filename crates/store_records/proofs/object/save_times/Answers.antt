use Rattle.store_records.proofs.Runs.{times_run}
use Rattle.store_records.proofs.object.save_times.Goals as goal

pub returns : goal.returns
returns c = rw (
  c.save_time-3.ensures,
  c.save_time-2.ensures,
  c.save_time.ensures,
)
    (times_run c.args.store.now c.args.at c.args.atime c.args.mtime c.args.ctime c.requires)
