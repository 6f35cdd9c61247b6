use Rattle.store_blocks.proofs.Blocks.{free_byte}
use Rattle.store_blocks.proofs.is_free_block.Goals as goal

pub returns : goal.returns
returns c = free_byte _ _ (c.requires.used_map.used c.args.r.0 c.requires.r_bound)
