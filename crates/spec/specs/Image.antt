-- The store image: where its sections lie, what the bytes of each record mean, and the bytes of each record.
use Rattle.std.specs.Prelude.{ℕ, zero, suc, ◌+◌, ◌*◌, ◌-◌, List, [], ◌∷◌, ◌++◌, length, get_or}
use Rattle.kinds.specs.Numbers.{file_blocks, most_name_bytes}
use Rattle.kinds.specs.Layout.{stamp_offset, object_count_offset, objects_head, names_head, blocks_head, generation_offset, mode_offset, uid_offset, gid_offset}
use Rattle.kinds.specs.Layout.{size_offset, atime_offset, mtime_offset, ctime_offset, blocks_offset, verifier_offset, exclusive_offset, object_length}
use Rattle.kinds.specs.Layout.{nanoseconds_offset, child_offset, length_offset, text_offset, name_record_length, block_length}
use Rattle.kinds.specs.declared.object.Time.{Time}
use Rattle.kinds.specs.declared.object.Object.{Object}
use Rattle.spec.specs.Bytes.{part, overlay, zeros, be_at, bytes_of}

-- the bytes of a store image
abbrev pub Store : Type 0
Store = List ℕ

-- "sections in a fixed order, each after its 4-byte count"; "volume: count 1; a 4-byte stamp"
unfoldable pub volumes : Store → ℕ
volumes s = be_at s 0 4

unfoldable pub stamp : Store → ℕ
stamp s = be_at s stamp_offset 4

-- P, Q and R
unfoldable pub objects : Store → ℕ
objects s = be_at s object_count_offset 4

unfoldable pub names : Store → ℕ
names s = be_at s (objects_head + object_length * objects s) 4

unfoldable pub blocks : Store → ℕ
blocks s = be_at s (names_head + object_length * objects s + name_record_length * names s) 4

-- where object o, name record n and block r start
abbrev pub object_start : ℕ → ℕ
object_start o = objects_head + object_length * o

abbrev pub name_start : Store → ℕ → ℕ
name_start s n = names_head + object_length * objects s + name_record_length * n

abbrev pub block_start : Store → ℕ → ℕ
block_start s r = blocks_head + object_length * objects s + name_record_length * names s + block_length * r

-- k numbers of two bytes each, from index at
unfoldable pub halves_at : List ℕ → ℕ → ℕ → List ℕ
halves_at b at zero = []
halves_at b at (suc k) = halves_at b at k ++ (be_at b (at + 2 * k) 2 ∷ [])

-- the first k numbers of xs, two bytes each
unfoldable pub halves_bytes : ℕ → List ℕ → List ℕ
halves_bytes zero xs = []
halves_bytes (suc k) xs = halves_bytes k xs ++ bytes_of 2 (get_or xs k 0)

unfoldable pub time_at : List ℕ → ℕ → Time
time_at b at = record { seconds = be_at b at 4; nanoseconds = be_at b (at + nanoseconds_offset) 4 }

unfoldable pub time_bytes : Time → List ℕ
time_bytes t = bytes_of 4 t.seconds ++ bytes_of 4 t.nanoseconds

-- "type, generation, mode, uid, gid, size (4 each); atime, mtime, ctime (8 each); 16 two-byte block numbers"; "(verifier, then a flag word ..)"
unfoldable pub object_from : List ℕ → ℕ → Object
object_from b at =
    record {
      kind = be_at b at 4;
      generation = be_at b (at + generation_offset) 4;
      mode = be_at b (at + mode_offset) 4;
      uid = be_at b (at + uid_offset) 4;
      gid = be_at b (at + gid_offset) 4;
      size = be_at b (at + size_offset) 4;
      atime = time_at b (at + atime_offset);
      mtime = time_at b (at + mtime_offset);
      ctime = time_at b (at + ctime_offset);
      blocks = halves_at b (at + blocks_offset) file_blocks;
      verifier = be_at b (at + verifier_offset) 8;
      exclusive = be_at b (at + exclusive_offset) 4;
    }

-- the numbers, the times, the blocks and then the verifier of an object
unfoldable pub head_bytes : Object → List ℕ
head_bytes v =
    bytes_of 4 v.kind ++ bytes_of 4 v.generation ++ bytes_of 4 v.mode ++ bytes_of 4 v.uid ++ bytes_of 4 v.gid ++ bytes_of 4 v.size

unfoldable pub times_bytes : Object → List ℕ
times_bytes v = time_bytes v.atime ++ time_bytes v.mtime ++ time_bytes v.ctime

unfoldable pub verifier_bytes : Object → List ℕ
verifier_bytes v = bytes_of 8 v.verifier ++ bytes_of 4 v.exclusive

unfoldable pub object_bytes : Object → List ℕ
object_bytes v = head_bytes v ++ times_bytes v ++ halves_bytes file_blocks v.blocks ++ verifier_bytes v

unfoldable pub object_at : Store → ℕ → Object
object_at s o = object_from s (object_start o)

unfoldable pub put_object : Store → ℕ → Object → Store
put_object s o v = overlay s (object_start o) (object_bytes v)

-- a name record: the name `text` of `child` in `directory`; a free one's text is empty
pub record Name : Type 0 where
  pub directory : ℕ
  pub child : ℕ
  pub text : List ℕ

-- "directory, child, length (4 each), 32 name bytes, zero-padded"
unfoldable pub name_from : List ℕ → ℕ → Name
name_from b at = record { directory = be_at b at 4; child = be_at b (at + child_offset) 4; text = part b (at + text_offset) (be_at b (at + length_offset) 4) }

unfoldable pub name_bytes : Name → List ℕ
name_bytes v =
    bytes_of 4 v.directory ++ bytes_of 4 v.child ++ bytes_of 4 (length v.text) ++ v.text ++ zeros (most_name_bytes - length v.text)

unfoldable pub name_at : Store → ℕ → Name
name_at s n = name_from s (name_start s n)

-- the length that name record n states
unfoldable pub name_length : Store → ℕ → ℕ
name_length s n = be_at s (name_start s n + length_offset) 4

unfoldable pub put_name : Store → ℕ → Name → Store
put_name s n v = overlay s (name_start s n) (name_bytes v)

-- "a free name (length 0) all zero"
abbrev pub free_name : Name
free_name = record { directory = 0; child = 0; text = [] }
