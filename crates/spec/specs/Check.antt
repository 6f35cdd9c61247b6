-- The store check: each demand of document 01, and all of them.
use Rattle.std.specs.Prelude.{ℕ, ◌+◌, ◌*◌, ◌-◌, List, Bool, ◌&&◌, ◌||◌, not, cond, eqb, leb, ltb, length, get_or}
use Rattle.kinds.specs.Layout.{blocks_head, mode_offset, object_length, text_offset, name_record_length, block_length}
use Rattle.kinds.specs.Numbers.{REGULAR, DIRECTORY, nanoseconds_end, most_objects, most_name_records, most_blocks, file_blocks, unused_block, kept_flag}
use Rattle.kinds.specs.Numbers.{most_file_bytes, spent_generation, most_mode, most_name_bytes, most_links}
use Rattle.kinds.specs.declared.object.Time.{Time}
use Rattle.kinds.specs.declared.object.Object.{Object}
use Rattle.spec.specs.Bytes.{part, all_bytes}
use Rattle.spec.specs.Count.{count, every}
use Rattle.spec.specs.Image.{Store, volumes, objects, names, blocks, object_start, name_start, object_at, name_at, name_length}
use Rattle.spec.specs.Room.{is_live, is_directory, need, uses, is_used_name, namings, is_named, above}
use Rattle.spec.specs.Names.{good_name}

unfoldable pub is_zero : List ℕ → Bool
is_zero bytes = all_bytes (λ x. eqb x 0) bytes

-- "volume: count 1"; "P, 1 to 64"; "Q, 0 to 128"; "R, 0 to 1,024"
unfoldable pub good_counts : ℕ → ℕ → ℕ → Bool
good_counts p q r = leb 1 p && leb p most_objects && leb q most_name_records && leb r most_blocks

-- "the image [grows] to 20 + 92P + 44Q + 512R"
abbrev pub image_length : ℕ → ℕ → ℕ → ℕ
image_length p q r = blocks_head + object_length * p + name_record_length * q + block_length * r

unfoldable pub good_shape : Store → Bool
good_shape s =
    eqb (volumes s) 1 && good_counts (objects s) (names s) (blocks s) && eqb (length s) (image_length (objects s) (names s) (blocks s))

-- "valid nanoseconds"
unfoldable pub good_time : Time → Bool
good_time t = ltb t.nanoseconds nanoseconds_end

-- "its first ceil(size/512) block numbers in range and the rest 65535"
unfoldable pub good_block : ℕ → Object → ℕ → Bool
good_block r v k = cond (ltb k (need v.size)) (ltb (get_or v.blocks k 0) r) (eqb (get_or v.blocks k 0) unused_block)

-- "a directory's size 0 with no blocks"; "a file's size at most 8,192"
unfoldable pub good_size : Object → Bool
good_size v = eqb v.kind REGULAR && leb v.size most_file_bytes || eqb v.kind DIRECTORY && eqb v.size 0

-- "a flag word: 1 on a regular file that keeps one, else both zero"
unfoldable pub good_verifier : Object → Bool
good_verifier v = eqb v.exclusive kept_flag && eqb v.kind REGULAR || eqb v.exclusive 0 && eqb v.verifier 0

-- "live generations below 4,294,967,295; modes at most 4,095; valid nanoseconds"
unfoldable pub good_live : ℕ → Object → Bool
good_live r v =
    ltb v.generation spent_generation && leb v.mode most_mode && good_time v.atime && good_time v.mtime && good_time v.ctime
    && good_size v && good_verifier v && every file_blocks (good_block r v)

-- "a free object zero but for its generation"
unfoldable pub good_free : Store → ℕ → Bool
good_free s o = is_zero (part s (object_start o + mode_offset) (object_length - mode_offset))

unfoldable pub good_object : Store → ℕ → Bool
good_object s o = cond (is_live s o) (good_live (blocks s) (object_at s o)) (good_free s o)

-- "Object 0 is the root, a directory."
unfoldable pub good_root : Store → Bool
good_root s = is_directory s 0

-- "used names 1 to 32 bytes, zero-padded, .. each joining a live directory to a live object"
unfoldable pub good_used : Store → ℕ → Bool
good_used s n =
    good_name (name_at s n).text
    && is_zero (part s (name_start s n + text_offset + name_length s n) (most_name_bytes - name_length s n))
    && (ltb (name_at s n).directory (objects s) && is_directory s (name_at s n).directory)
    && (ltb (name_at s n).child (objects s) && is_live s (name_at s n).child)

-- "a free name (length 0) all zero"
unfoldable pub good_name_record : Store → ℕ → Bool
good_name_record s n = cond (is_used_name s n) (good_used s n) (is_zero (part s (name_start s n) name_record_length))

-- "distinct within a directory"
unfoldable pub is_distinct : Store → ℕ → Bool
is_distinct s n = not (is_used_name s n) || eqb (count (names s) (is_named s (name_at s n).directory (name_at s n).text)) 1

-- E7: "The store check admits 1 to 16 names per file and one per directory"
abbrev pub most_names : ℕ → ℕ
most_names kind = cond (eqb kind REGULAR) most_links 1

-- "every live object but the root named .., the root never", as often as its type allows
unfoldable pub good_namings : Store → ℕ → Bool
good_namings s o =
    cond (eqb o 0) (eqb (namings s o) 0)
    (not (is_live s o) || leb 1 (namings s o) && leb (namings s o) (most_names (object_at s o).kind))

-- "no block used twice"
unfoldable pub is_used_once : Store → ℕ → Bool
is_used_once s r = leb (uses s r) 1

-- "parents lead to the root": P steps are enough, since the root's parent is the root
unfoldable pub leads_to_root : Store → ℕ → Bool
leads_to_root s o = not (is_live s o) || eqb (above s (objects s) o) 0

-- the demands on the records; "Block contents aren't checked."
unfoldable pub records_pass : Store → Bool
records_pass s =
    good_root s && every (objects s) (good_object s) && every (names s) (good_name_record s) && every (names s) (is_distinct s)
    && every (objects s) (good_namings s) && every (blocks s) (is_used_once s) && every (objects s) (leads_to_root s)

-- the store check
unfoldable pub passes : Store → Bool
passes s = good_shape s && records_pass s
