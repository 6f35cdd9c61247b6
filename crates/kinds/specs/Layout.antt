-- Where things stand in a store image, and how long they are. "Big-endian; sections in a fixed order, each after its 4-byte count".
use Rattle.std.specs.Prelude.{ℕ, List, [], ◌∷◌}

-- "volume: count 1; a 4-byte stamp", then P: where the stamp and the count of objects stand
abbrev pub stamp_offset : ℕ
stamp_offset = 4

abbrev pub object_count_offset : ℕ
object_count_offset = 8

-- the bytes of counts and of the stamp before the object records, before the name records and before the blocks
abbrev pub objects_head : ℕ
objects_head = 12

abbrev pub names_head : ℕ
names_head = 16

abbrev pub blocks_head : ℕ
blocks_head = 20

-- "type, generation, mode, uid, gid, size (4 each); atime, mtime, ctime (8 each); 16 two-byte block numbers"; "Object records grow to 92 bytes
-- (verifier, then a flag word ..)": the type stands first, and each other field at its offset
abbrev pub generation_offset : ℕ
generation_offset = 4

abbrev pub mode_offset : ℕ
mode_offset = 8

abbrev pub uid_offset : ℕ
uid_offset = 12

abbrev pub gid_offset : ℕ
gid_offset = 16

abbrev pub size_offset : ℕ
size_offset = 20

abbrev pub atime_offset : ℕ
atime_offset = 24

abbrev pub mtime_offset : ℕ
mtime_offset = 32

abbrev pub ctime_offset : ℕ
ctime_offset = 40

abbrev pub blocks_offset : ℕ
blocks_offset = 48

abbrev pub verifier_offset : ℕ
verifier_offset = 80

abbrev pub exclusive_offset : ℕ
exclusive_offset = 88

abbrev pub object_length : ℕ
object_length = 92

-- "80 bytes each", document 01's layout: the fields of these stand where they stood
abbrev pub old_object_length : ℕ
old_object_length = 80

-- the nanoseconds of a time stand after its seconds
abbrev pub nanoseconds_offset : ℕ
nanoseconds_offset = 4

abbrev pub time_length : ℕ
time_length = 8

-- "44 bytes each: directory, child, length (4 each), 32 name bytes": the directory stands first
abbrev pub child_offset : ℕ
child_offset = 4

abbrev pub length_offset : ℕ
length_offset = 8

abbrev pub text_offset : ℕ
text_offset = 12

abbrev pub name_record_length : ℕ
name_record_length = 44

-- "512 bytes each"
abbrev pub block_length : ℕ
block_length = 512

-- all of them, in this order
abbrev pub layout : List ℕ
layout =
    stamp_offset ∷ object_count_offset ∷ objects_head ∷ names_head ∷ blocks_head
    ∷ generation_offset ∷ mode_offset ∷ uid_offset ∷ gid_offset ∷ size_offset ∷ atime_offset ∷ mtime_offset ∷ ctime_offset ∷ blocks_offset ∷ verifier_offset
    ∷ exclusive_offset ∷ object_length ∷ old_object_length ∷ nanoseconds_offset ∷ time_length ∷ child_offset ∷ length_offset ∷ text_offset
    ∷ name_record_length ∷ block_length ∷ []
