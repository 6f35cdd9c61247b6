-- What the records of a store say together: which objects are live, which names, objects and blocks are free, and who names whom.
use Rattle.std.specs.Prelude.{ℕ, ◌+◌, ◌-◌, ◌/◌, ◌%◌, List, Bool, ◌&&◌, not, cond, eqb, ltb, length, get_or, take}
use Rattle.std.proofs.Math.Option.{Option, some, none}
use Rattle.kinds.specs.Layout.{block_length}
use Rattle.kinds.specs.Numbers.{FREE, REGULAR, DIRECTORY, spent_generation}
use Rattle.spec.specs.Bytes.{same_bytes, pairs}
use Rattle.spec.specs.Count.{sum, count, passing, lowest, times, iterate}
use Rattle.spec.specs.Image.{Store, objects, names, blocks, block_start, object_at, name_at, name_length}

-- "Types: 0 free, 1 regular, 2 directory."
unfoldable pub is_live : Store → ℕ → Bool
is_live s o = not (eqb (object_at s o).kind FREE)

unfoldable pub is_regular : Store → ℕ → Bool
is_regular s o = eqb (object_at s o).kind REGULAR

unfoldable pub is_directory : Store → ℕ → Bool
is_directory s o = eqb (object_at s o).kind DIRECTORY

-- a file's size; a directory's is 0 in its record
unfoldable pub size_of : Store → ℕ → ℕ
size_of s o = (object_at s o).size

-- "ceil(size/512)"
abbrev pub need : ℕ → ℕ
need size = (size + (block_length - 1)) / block_length

-- the blocks of an object: "its first ceil(size/512) block numbers"
unfoldable pub held : Store → ℕ → List ℕ
held s o = take (need (size_of s o)) (object_at s o).blocks

-- how many places block r serves
unfoldable pub uses : Store → ℕ → ℕ
uses s r = sum (objects s) (λ o. times r (held s o))

-- the free blocks, lowest first, and how many there are
unfoldable pub is_free_block : Store → ℕ → Bool
is_free_block s r = eqb (uses s r) 0

unfoldable pub free_blocks : Store → List ℕ
free_blocks s = passing (blocks s) (is_free_block s)

unfoldable pub free_block_count : Store → ℕ
free_block_count s = count (blocks s) (is_free_block s)

-- "A free object below that is available.": below the generation 4,294,967,295
unfoldable pub is_available : Store → ℕ → Bool
is_available s o = not (is_live s o) && ltb (object_at s o).generation spent_generation

unfoldable pub available_count : Store → ℕ
available_count s = count (objects s) (is_available s)

-- "The lowest-numbered available object .. [is] taken."
unfoldable pub available_object : Store → Option ℕ
available_object s = lowest (objects s) (is_available s)

-- "a free name (length 0)"
unfoldable pub is_used_name : Store → ℕ → Bool
is_used_name s n = not (eqb (name_length s n) 0)

-- "The lowest-numbered .. free name .. [is] taken."
unfoldable pub available_name : Store → Option ℕ
available_name s = lowest (names s) (λ n. not (is_used_name s n))

unfoldable pub free_name_count : Store → ℕ
free_name_count s = count (names s) (λ n. not (is_used_name s n))

-- name record n names object o
unfoldable pub is_naming : Store → ℕ → ℕ → Bool
is_naming s o n = is_used_name s n && eqb (name_at s n).child o

-- how many name records name object o
unfoldable pub namings : Store → ℕ → ℕ
namings s o = count (names s) (is_naming s o)

-- name record n is in directory d
unfoldable pub is_in : Store → ℕ → ℕ → Bool
is_in s d n = is_used_name s n && eqb (name_at s n).directory d

-- name record n is in directory d under `text`: the directory, then the length, then the bytes
unfoldable pub is_named : Store → ℕ → List ℕ → ℕ → Bool
is_named s d text n = is_in s d n && (eqb (name_length s n) (length text) && same_bytes (name_at s n).text text)

-- the name record of `text` in directory d
unfoldable pub find_name : Store → ℕ → List ℕ → Option ℕ
find_name s d text = lowest (names s) (is_named s d text)

-- how many byte pairs the search for `text` in directory d compares at name record n: "0 where lengths differ, else through the first difference or,
-- without one, the whole name"; at a free record and at one of another directory 0
unfoldable pub compared_at : Store → ℕ → List ℕ → ℕ → ℕ
compared_at s d text n = cond (is_in s d n && eqb (name_length s n) (length text)) (pairs (name_at s n).text text) 0

-- how many name records the search goes through: "ascending up to the match", and with it; without one, all
abbrev pub searched : Store → Option ℕ → ℕ
searched s none = names s
searched s (some n) = n + 1

-- "The search also returns how many byte pairs it compared: over the directory's records, ascending up to the match"
unfoldable pub compared : Store → ℕ → List ℕ → ℕ
compared s d text = sum (searched s (find_name s d text)) (compared_at s d text)

-- the directories in directory d
unfoldable pub subdirectories : Store → ℕ → ℕ
subdirectories s d = count (names s) (λ n. is_in s d n && is_directory s (name_at s n).child)

abbrev pub directory_of : Store → Option ℕ → ℕ
directory_of s none = 0
directory_of s (some n) = (name_at s n).directory

-- "the parent (the root's is the root)": the directory of the record that names o; the root is named by none
unfoldable pub parent : Store → ℕ → ℕ
parent s o = directory_of s (lowest (names s) (is_naming s o))

-- the object k steps above o
unfoldable pub above : Store → ℕ → ℕ → ℕ
above s k o = iterate k (parent s) o

-- where byte i of object o's file lies in the image
unfoldable pub byte_at : Store → ℕ → ℕ → ℕ
byte_at s o i = block_start s (get_or (object_at s o).blocks (i / block_length) 0) + i % block_length
