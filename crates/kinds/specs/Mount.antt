-- The numbers of MOUNT version 3 (RFC 1813 appendix I) and of the mount table.
use Rattle.std.specs.Prelude.{ℕ, List, [], ◌∷◌}

-- NULL, MNT, DUMP, UMNT, UMNTALL, EXPORT (RFC 1813 section 5.2)
abbrev pub mount_procedures : List ℕ
mount_procedures = 0 ∷ 1 ∷ 2 ∷ 3 ∷ 4 ∷ 5 ∷ []

-- "Program 100005 version 3"
abbrev pub mount_program : ℕ
mount_program = 100005

abbrev pub mount_version : ℕ
mount_version = 3

-- "MNT lists flavors 0 and 1"
abbrev pub none_flavor : ℕ
none_flavor = 0

abbrev pub unix_flavor : ℕ
unix_flavor = 1

-- "reply space under 33,692 bytes gets answer 2"
abbrev pub least_mount_reply_bytes : ℕ
least_mount_reply_bytes = 33692

-- "Mount table: 33,024 bytes, 32 rows of host, path length (4 each), path (1,024)": the host stands first, and each other field at its offset
abbrev pub rows : ℕ
rows = 32

abbrev pub most_path_bytes : ℕ
most_path_bytes = 1024

abbrev pub path_length_offset : ℕ
path_length_offset = 4

abbrev pub path_offset : ℕ
path_offset = 8

abbrev pub row_length : ℕ
row_length = 1032

abbrev pub table_length : ℕ
table_length = 33024

-- all but the procedures, in this order
abbrev pub mount_numbers : List ℕ
mount_numbers =
    mount_program ∷ mount_version ∷ none_flavor ∷ unix_flavor ∷ least_mount_reply_bytes ∷ rows ∷ most_path_bytes ∷ path_length_offset ∷ path_offset ∷ row_length
    ∷ table_length ∷ []
