use Rattle.spec.specs.Edits.{forget_verifier}
use Rattle.edit_attributes.proofs.Kept.{verifier_written}
use Rattle.edit_attributes.proofs.forget_verifier.Goals as goal

pub returns : goal.returns
unfolding forget_verifier
returns c = rw (c.save_verifier.ensures, c.object_start-at.ensures)
    (verifier_written c.args.store.now c.args.o.0 (λ k. (c.slice_known-1.given k).fits) c.requires 0 0)
