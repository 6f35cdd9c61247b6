use Rattle.spec.specs.Image.{time_at}
use Rattle.store_records.proofs.object.load_time.Goals as goal

pub returns : goal.returns
unfolding time_at
returns c = rw (c.get_u32-nanoseconds.ensures, c.get_u32-seconds.ensures)
