use Prim.Native.Nat.{◌+◌}
use Rattle.kinds.specs.Layout.{blocks_offset}
use Rattle.kinds.specs.Numbers.{file_blocks}
use Rattle.spec.specs.Image.{object_start, object_at, object_from}
use Rattle.laws.proofs.Records.{half_read}
use Rattle.store_records.proofs.object.block_of.Goals as goal

pub returns : goal.returns
unfolding object_at object_from
returns c = rw (
  c.get_u16.ensures,
  c.object_start-at.ensures,
  half_read c.args.store.now (object_start c.args.o.0 + blocks_offset) file_blocks c.args.k
      c.requires.k_lt_file_blocks,
)
