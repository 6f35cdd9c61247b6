use Rattle.spec.specs.Image.{times_bytes, verifier_bytes}
use Rattle.store_records.proofs.Runs.{object_run}
use Rattle.store_records.proofs.object.save_object.Goals as goal

pub returns : goal.returns
unfolding times_bytes verifier_bytes
returns c = rw (
  c.save_verifier.ensures,
  c.save_blocks.ensures,
  c.block_numbers.ensures,
  c.save_times.ensures,
  c.save_head.ensures,
  c.object_start-at.ensures,
)
    (object_run c.args.store.now c.args.o.0 c.args.v c.requires)
