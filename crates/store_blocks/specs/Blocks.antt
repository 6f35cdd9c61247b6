-- A map of the used blocks, and free blocks as an object record lists them.
use Rattle.std.specs.Prelude.{ℕ, ◌-◌, ◌<◌, ◌≡◌, not, List, ◌++◌, length, get_or, take, replicate}
use Rattle.kinds.specs.Numbers.{file_blocks, unused_block}
use Rattle.spec.specs.Count.{bit}
use Rattle.spec.specs.Image.{Store, blocks}
use Rattle.spec.specs.Room.{is_free_block}

-- byte r of the map is 1 where block r is used, 0 where it is free
pub record UsedMap (s : Store) (map : List ℕ) : Type 0 where
  pub used : (r : ℕ) → r < blocks s → get_or map r 0 ≡ bit (not (is_free_block s r))

-- the first n of xs, then the number of an unused block, as many as an object record has: "16 two-byte block numbers, unused 65535"
unfoldable pub block_list : ℕ → List ℕ → List ℕ
block_list n xs = take n xs ++ replicate (file_blocks - length (take n xs)) unused_block

-- how many blocks are tested together
abbrev pub group : ℕ
group = 64
