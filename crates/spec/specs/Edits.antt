-- The edits of the store. Nothing else writes it.
use Rattle.std.specs.Prelude.{ℕ, zero, suc, ◌+◌, ◌-◌, ◌%◌, min, max, List, [], ◌∷◌, ◌++◌, cond, eqb, ltb, get_or, take, drop, replicate, Option, Some, None}
use Rattle.kinds.specs.Numbers.{file_blocks, unused_block}
use Rattle.kinds.specs.Layout.{block_length}
use Rattle.kinds.specs.Objects.{free_object}
use Rattle.kinds.specs.declared.object.Time.{Time}
use Rattle.kinds.specs.declared.object.Object.{Object}
use Rattle.kinds.specs.declared.call.SetTime.{SetTime}
use Rattle.kinds.specs.declared.call.SetTime.TheVariants as SetTime
use Rattle.kinds.specs.declared.call.Settable.{Settable}
use Rattle.spec.specs.Bytes.{overlay, zeros}
use Rattle.spec.specs.Image.{Store, block_start, object_at, put_object, name_at, put_name, free_name}
use Rattle.spec.specs.Room.{size_of, need, held, free_blocks, namings, byte_at}

-- a number that a call may set
abbrev pub number_set : Option ℕ → ℕ → ℕ
number_set None old = old
number_set (Some n) old = n

-- a time that a call may set to the clock or to its own
abbrev pub time_set : Time → SetTime → Time → Time
time_set clock SetTime.Keep old = old
time_set clock SetTime.ToServer old = clock
time_set clock (SetTime.ToClient t) old = t

-- an object with the attributes that a call sets, but for its size, and the clock as its ctime
unfoldable pub with_attributes : Time → Settable → Object → Object
with_attributes clock a v =
    record {
      kind = v.kind;
      generation = v.generation;
      mode = number_set a.mode v.mode;
      uid = number_set a.uid v.uid;
      gid = number_set a.gid v.gid;
      size = v.size;
      atime = time_set clock a.atime v.atime;
      mtime = time_set clock a.mtime v.mtime;
      ctime = clock;
      blocks = v.blocks;
      verifier = v.verifier;
      exclusive = v.exclusive;
    }

-- FIRST EDIT: an object's attributes and times
unfoldable pub set_attributes : Store → Time → ℕ → Settable → Store
set_attributes s clock o a = put_object s o (with_attributes clock a (object_at s o))

-- sets ctime alone, and mtime and ctime
abbrev pub only_ctime : Settable
only_ctime =
    record { mode = None; uid = None; gid = None; size = None; atime = SetTime.Keep; mtime = SetTime.Keep }

abbrev pub mtime_and_ctime : Settable
mtime_and_ctime =
    record { mode = None; uid = None; gid = None; size = None; atime = SetTime.Keep; mtime = SetTime.ToServer }

-- an object with another verifier and flag
unfoldable pub with_verifier : ℕ → ℕ → Object → Object
with_verifier verifier flag v =
    record {
      kind = v.kind;
      generation = v.generation;
      mode = v.mode;
      uid = v.uid;
      gid = v.gid;
      size = v.size;
      atime = v.atime;
      mtime = v.mtime;
      ctime = v.ctime;
      blocks = v.blocks;
      verifier = verifier;
      exclusive = flag;
    }

-- SECOND EDIT: "A successful SETATTR forgets the verifier."
unfoldable pub forget_verifier : Store → ℕ → Store
forget_verifier s o = put_object s o (with_verifier 0 0 (object_at s o))

-- whole blocks zeroed
unfoldable pub clear_blocks : Store → List ℕ → Store
clear_blocks s [] = s
clear_blocks s (r ∷ rs) = clear_blocks (overlay s (block_start s r) (zeros block_length)) rs

-- the bytes of object o's file from `start` to `end`, as far as they lie in a block that has bytes before `start`, zeroed
unfoldable pub clear_tail : Store → ℕ → ℕ → ℕ → Store
clear_tail s o start end =
    cond (eqb (start % block_length) 0) s
    (overlay s (byte_at s o start) (zeros (min (end - start) (block_length - start % block_length))))

-- 16 block numbers, "unused 65535"
unfoldable pub block_numbers : List ℕ → List ℕ
block_numbers rs = take file_blocks (rs ++ replicate file_blocks unused_block)

-- an object of another size, with these block numbers
unfoldable pub with_size : ℕ → List ℕ → Object → Object
with_size size numbers v =
    record {
      kind = v.kind;
      generation = v.generation;
      mode = v.mode;
      uid = v.uid;
      gid = v.gid;
      size = size;
      atime = v.atime;
      mtime = v.mtime;
      ctime = v.ctime;
      blocks = numbers;
      verifier = v.verifier;
      exclusive = v.exclusive;
    }

-- THIRD EDIT: a file's size. "New blocks, freed blocks and cut tails (new to old end) are zeroed; any growth zeroes each byte from old
-- to new end that gets no data. Other block bytes stay."; "The lowest-numbered .. free blocks are taken."
unfoldable pub resize : Store → ℕ → ℕ → Store
resize s o size =
    let old = size_of s o in
    let kept = take (need size) (held s o) in
    let freed = drop (need size) (held s o) in
    let added = take (need size - need old) (free_blocks s) in
    put_object (clear_blocks (clear_tail s o (min old size) (max old size)) (freed ++ added)) o
    (with_size size (block_numbers (kept ++ added)) (object_at s o))

-- an object in a record that has been free: the record's generation stays
unfoldable pub with_generation : ℕ → Object → Object
with_generation generation v =
    record {
      kind = v.kind;
      generation = generation;
      mode = v.mode;
      uid = v.uid;
      gid = v.gid;
      size = v.size;
      atime = v.atime;
      mtime = v.mtime;
      ctime = v.ctime;
      blocks = v.blocks;
      verifier = v.verifier;
      exclusive = v.exclusive;
    }

-- FOURTH EDIT: the free name record n names object o `text` in directory d
abbrev pub add_name : Store → ℕ → ℕ → ℕ → List ℕ → Store
add_name s n o d text = put_name s n (record { directory = d; child = o; text = text })

-- FIFTH EDIT: object v in the free record o, with its first name
unfoldable pub create_object : Store → ℕ → ℕ → Object → ℕ → List ℕ → Store
create_object s o n v d text = add_name (put_object s o (with_generation (object_at s o).generation v)) n o d text

-- SIXTH EDIT: name record n is free
abbrev pub drop_name : Store → ℕ → Store
drop_name s n = put_name s n free_name

-- SEVENTH EDIT: the object that name record n names, its blocks and the name record are free. "Freeing an object raises its generation by one"
unfoldable pub remove_object : Store → ℕ → Store
remove_object s n =
    let o = (name_at s n).child in
    drop_name (put_object (clear_blocks s (held s o)) o (free_object ((object_at s o).generation + 1))) n

-- E7: "REMOVE, or a RENAME onto it, frees the object only with its last name, and otherwise sets its ctime."
unfoldable pub remove_name : Store → Time → ℕ → Store
remove_name s clock n =
    let o = (name_at s n).child in
    cond (ltb 1 (namings s o)) (drop_name (set_attributes s clock o only_ctime) n) (remove_object s n)

-- EIGHTH EDIT: "The name record is rewritten in place"
unfoldable pub move_name : Store → ℕ → ℕ → List ℕ → Store
move_name s n d text = put_name s n (record { directory = d; child = (name_at s n).child; text = text })

-- bytes at the places of the file's bytes i, i + 1, ..
unfoldable pub write_through : (ℕ → ℕ) → Store → ℕ → List ℕ → Store
write_through place s i [] = s
write_through place s i (x ∷ xs) = write_through place (overlay s (place i) (x ∷ [])) (i + 1) xs

unfoldable pub read_through : (ℕ → ℕ) → Store → ℕ → ℕ → List ℕ
read_through place s i zero = []
read_through place s i (suc n) = get_or s (place i) 0 ∷ read_through place s (i + 1) n

-- FILE DATA: bytes written at an offset of object o's file, whose blocks are there, and n bytes read from an offset
unfoldable pub write_file : Store → ℕ → ℕ → List ℕ → Store
write_file s o offset bytes = write_through (byte_at s o) s offset bytes

unfoldable pub read_file : Store → ℕ → ℕ → ℕ → List ℕ
read_file s o offset n = read_through (byte_at s o) s offset n
