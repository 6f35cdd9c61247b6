use native.Mathlib.Omega.{arith}
use Rattle.store_records.proofs.Good.{namings_few, subdirectories_few}
use Rattle.store_attributes.proofs.link_count.Goals as goal

pub overflow_add-result : goal.overflow_add-result
overflow_add-result c = let h = c.requires.good_records.sound.shaped in
    omega (arith, subdirectories_few c.args.store.now c.args.o.0)

pub overflow_cast-result : goal.overflow_cast-result
overflow_cast-result c = let h = c.requires.good_records.sound.shaped in
    omega (arith, subdirectories_few c.args.store.now c.args.o.0)

pub overflow_cast-result-2 : goal.overflow_cast-result-2
overflow_cast-result-2 c = let h = c.requires.good_records.sound.shaped in
    omega (arith, namings_few c.args.store.now c.args.o.0)
