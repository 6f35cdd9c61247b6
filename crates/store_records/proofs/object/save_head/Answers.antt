use Rattle.store_records.proofs.Runs.{head_run}
use Rattle.store_records.proofs.object.save_head.Goals as goal

pub returns : goal.returns
returns c = rw (
  c.put_u32-6.ensures,
  c.put_u32-5.ensures,
  c.put_u32-4.ensures,
  c.put_u32-3.ensures,
  c.put_u32-2.ensures,
  c.put_u32.ensures,
)
    (head_run c.args.store.now c.args.at c.args.v c.requires)
