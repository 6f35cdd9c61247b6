-- The room that the converter works in.
use Rattle.std.specs.Prelude.{ℕ, ◌+◌, ◌*◌}
use Rattle.kinds.specs.Layout.{blocks_head, object_length, name_record_length}
use Rattle.kinds.specs.Numbers.{most_objects, most_name_records}

-- the bytes of a store up to its blocks, at most
abbrev pub most_records : ℕ
most_records = blocks_head + object_length * most_objects + name_record_length * most_name_records
