use Rattle.fsck.specs.Format.{front_of}
use Rattle.fsck.proofs.format.write_front.Goals as goal

pub returns : goal.returns
unfolding front_of
returns c = rw (
  c.clear_bytes.ensures,
  c.save_object.ensures,
  c.root.ensures,
  c.put_u32-3.ensures,
  c.put_u32-2.ensures,
  c.put_u32.ensures,
)
