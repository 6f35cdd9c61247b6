-- The converter from document 01's layout, in which an object record has 80 bytes: which old images are good, and what each becomes.
use Rattle.std.specs.Prelude.{ℕ, zero, suc, ◌+◌, ◌*◌, ◌-◌, List, [], ◌∷◌, ◌++◌, Bool, ◌&&◌, eqb, leb, length, drop}
use Rattle.kinds.specs.Numbers.{file_blocks}
use Rattle.kinds.specs.Layout.{objects_head, names_head, blocks_head, generation_offset, mode_offset, uid_offset, gid_offset, size_offset, atime_offset}
use Rattle.kinds.specs.Layout.{mtime_offset, ctime_offset, blocks_offset, object_length, old_object_length, name_record_length, block_length}
use Rattle.kinds.specs.declared.object.Object.{Object}
use Rattle.spec.specs.Bytes.{part, zeros, be_at}
use Rattle.spec.specs.Image.{Store, volumes, objects, halves_at, time_at}
use Rattle.spec.specs.Check.{good_counts, passes}
use Rattle.spec.specs.Count.{every}
use Rattle.spec.specs.Room.{namings}

-- where object o starts in the old layout, and Q and R there; the counts before them stand at the same places
abbrev pub old_start : ℕ → ℕ
old_start o = objects_head + old_object_length * o

unfoldable pub old_names : List ℕ → ℕ
old_names b = be_at b (old_start (objects b)) 4

unfoldable pub old_blocks : List ℕ → ℕ
old_blocks b = be_at b (names_head + old_object_length * objects b + name_record_length * old_names b) 4

-- "Length exactly 20 + 80P + 44Q + 512R"
abbrev pub old_length : ℕ → ℕ → ℕ → ℕ
old_length p q r = blocks_head + old_object_length * p + name_record_length * q + block_length * r

unfoldable pub old_shape : List ℕ → Bool
old_shape b =
    eqb (volumes b) 1 && good_counts (objects b) (old_names b) (old_blocks b) && eqb (length b) (old_length (objects b) (old_names b) (old_blocks b))

-- object o of an old image: each field read at its place in the old layout, and the new ones zero
unfoldable pub old_object_at : List ℕ → ℕ → Object
old_object_at b o =
    record {
      kind = be_at b (old_start o) 4;
      generation = be_at b (old_start o + generation_offset) 4;
      mode = be_at b (old_start o + mode_offset) 4;
      uid = be_at b (old_start o + uid_offset) 4;
      gid = be_at b (old_start o + gid_offset) 4;
      size = be_at b (old_start o + size_offset) 4;
      atime = time_at b (old_start o + atime_offset);
      mtime = time_at b (old_start o + mtime_offset);
      ctime = time_at b (old_start o + ctime_offset);
      blocks = halves_at b (old_start o + blocks_offset) file_blocks;
      verifier = 0;
      exclusive = 0;
    }

-- the first k old records, each followed by zeros for the new fields
unfoldable pub lengthened : List ℕ → ℕ → List ℕ
lengthened b zero = []
lengthened b (suc k) = lengthened b k ++ part b (old_start k) old_object_length ++ zeros (object_length - old_object_length)

-- "A converter from the old layout keeps every old field, and so handles, the new ones zero": the volume and P, the records, and all behind them
unfoldable pub converted : List ℕ → Store
converted b = part b 0 objects_head ++ lengthened b (objects b) ++ drop (old_start (objects b)) b

-- "every live object .. named once": no object has more than one name
unfoldable pub is_named_once : Store → ℕ → Bool
is_named_once s o = leb (namings s o) 1

-- document 01's own check: the old shape, each of its demands on the fields, which are those of the image that it becomes, and one name for each object
unfoldable pub good_old : List ℕ → Bool
good_old b = old_shape b && passes (converted b) && every (objects b) (is_named_once (converted b))
