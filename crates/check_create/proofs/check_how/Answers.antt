use Rattle.spec.specs.Procedures.{cut}
use Rattle.check_create.proofs.Told.{new_size}
use Rattle.check_create.proofs.check_how.Goals as goal

pub check_target-requires-clause-size_bound : goal.check_target-requires-clause-size_bound
check_target-requires-clause-size_bound c = rw (← c.settable_in.ensures) (new_size (cut c.args.call.now c.args.name) c.settable_in.result
    (rw (← c.bad_attributes.ensures, ← c.check_new.ensures, c.in_ok-check_new.was)))
