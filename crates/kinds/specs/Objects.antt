-- The object records that need no store: one without blocks, a root as format makes it, and a free record.
use Rattle.std.specs.Prelude.{ℕ, replicate}
use Rattle.kinds.specs.Numbers.{FREE, DIRECTORY, file_blocks, unused_block}
use Rattle.kinds.specs.declared.object.Time.{Time}
use Rattle.kinds.specs.declared.object.Object.{Object}

-- of a kind and a mode: ids 0, no blocks, no verifier, all times from one clock
abbrev pub plain_object : ℕ → ℕ → Time → Object
plain_object kind mode clock =
    record {
      kind = kind;
      generation = 0;
      mode = mode;
      uid = 0;
      gid = 0;
      size = 0;
      atime = clock;
      mtime = clock;
      ctime = clock;
      blocks = replicate file_blocks unused_block;
      verifier = 0;
      exclusive = 0;
    }

-- "Format gives a root of mode 493, ids 0, times from the clock, every generation 0"; "a directory's size 0 with no blocks"
abbrev pub root_object : Time → Object
root_object clock = plain_object DIRECTORY 493 clock

-- 0 0, the time of a record that is free
abbrev pub no_time : Time
no_time = record { seconds = 0; nanoseconds = 0 }

-- "a free object zero but for its generation"
abbrev pub free_object : ℕ → Object
free_object generation =
    record {
      kind = FREE;
      generation = generation;
      mode = 0;
      uid = 0;
      gid = 0;
      size = 0;
      atime = no_time;
      mtime = no_time;
      ctime = no_time;
      blocks = replicate file_blocks 0;
      verifier = 0;
      exclusive = 0;
    }
