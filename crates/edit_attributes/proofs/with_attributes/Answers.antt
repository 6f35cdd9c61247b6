use Rattle.spec.specs.Edits.{with_attributes}
use Rattle.edit_attributes.proofs.with_attributes.Goals as goal

pub returns : goal.returns
unfolding with_attributes
returns c = let v = c.args.v in
    λ i. record {
      kind = v.kind;
      generation = v.generation;
      mode = c.number_set.ensures i;
      uid = c.number_set-2.ensures i;
      gid = c.number_set-3.ensures i;
      size = v.size;
      atime = c.time_set.ensures i;
      mtime = c.time_set-2.ensures i;
      ctime = c.args.clock;
      blocks = v.blocks;
      verifier = v.verifier;
      exclusive = v.exclusive;
    }
