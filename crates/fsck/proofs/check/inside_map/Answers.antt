use Rattle.std.proofs.Common.{rules}
use Rattle.fsck.proofs.Filled.{half_ones}
use Rattle.fsck.proofs.check.inside_map.Goals as goal

pub returns : goal.returns
returns c = rw (c.fill.ensures.after (λ y e. search rules)) half_ones
