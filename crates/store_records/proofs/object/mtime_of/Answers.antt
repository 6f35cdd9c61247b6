use Rattle.spec.specs.Image.{object_at, object_from}
use Rattle.store_records.proofs.object.mtime_of.Goals as goal

pub returns : goal.returns
unfolding object_at object_from
returns c = rw (c.load_time.ensures, c.object_start-at.ensures)
