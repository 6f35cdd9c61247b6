-- FSSTAT, FSINFO and PATHCONF.
use Rattle.std.specs.Prelude.{ℕ, ◌*◌, List}
use Rattle.kinds.specs.Layout.{block_length}
use Rattle.spec.specs.Handles.{reach, attributes}
use Rattle.spec.specs.Image.{Store, objects, blocks}
use Rattle.spec.specs.Results.{Result, Done, unchanged, fail_showing, settle, got_room, got_limits, got_naming}
use Rattle.spec.specs.Room.{free_block_count, available_count}

-- "FSSTAT: total and free bytes (available equals free), P, available objects twice, 0."
abbrev pub room_result : Store → ℕ → Result
room_result s o = got_room (attributes s o) (block_length * blocks s) (block_length * free_block_count s) (objects s) (available_count s)

unfoldable pub fsstat : Store → List ℕ → Done
fsstat s h = settle s (fail_showing s h) (reach s h) (λ o. unchanged s (room_result s o))

unfoldable pub fsinfo : Store → List ℕ → Done
fsinfo s h = settle s (fail_showing s h) (reach s h) (λ o. unchanged s (got_limits (attributes s o)))

unfoldable pub pathconf : Store → List ℕ → Done
pathconf s h = settle s (fail_showing s h) (reach s h) (λ o. unchanged s (got_naming (attributes s o)))
