-- How many blocks are free, and how many objects available, at most. Assumes nothing.
use Prim.Native.Nat.{◌≤◌}
use Rattle.spec.specs.Image.{Store, objects, blocks}
use Rattle.spec.specs.Room.{is_free_block, free_block_count, is_available, available_count}
use Rattle.laws.proofs.Count.{count_bound}

pub free_few : (s : Store) → free_block_count s ≤ blocks s
unfolding free_block_count
free_few s = count_bound (blocks s) (is_free_block s)

pub available_few : (s : Store) → available_count s ≤ objects s
unfolding available_count
available_few s = count_bound (objects s) (is_available s)
