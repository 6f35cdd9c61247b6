use Rattle.kinds.specs.BlockNumbers.{numbers_of}
use Rattle.edit_size.proofs.SizeWritten.{size_written}
use Rattle.edit_size.proofs.size.save_size.Goals as goal

pub returns : goal.returns
returns c = rw (c.save_blocks.ensures, c.put_u32.ensures, c.object_start-at.ensures)
    (size_written c.args.store.now c.args.o.0 c.args.size (numbers_of c.args.list) (λ k. (c.slice_known-1.given k).fits) c.requires)
