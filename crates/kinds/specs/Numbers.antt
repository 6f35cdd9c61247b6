-- The numbers of document 01 and of the RFCs, by their names.
use Rattle.std.specs.Prelude.{ℕ, List, [], ◌∷◌}

-- "Status numbers: RFC 1813 section 2.6."
abbrev pub OK : ℕ
OK = 0

abbrev pub NOENT : ℕ
NOENT = 2

abbrev pub ACCES : ℕ
ACCES = 13

abbrev pub EXIST : ℕ
EXIST = 17

abbrev pub NOTDIR : ℕ
NOTDIR = 20

abbrev pub INVAL : ℕ
INVAL = 22

abbrev pub FBIG : ℕ
FBIG = 27

abbrev pub NOSPC : ℕ
NOSPC = 28

abbrev pub MLINK : ℕ
MLINK = 31

abbrev pub NAMETOOLONG : ℕ
NAMETOOLONG = 63

abbrev pub NOTEMPTY : ℕ
NOTEMPTY = 66

abbrev pub STALE : ℕ
STALE = 70

abbrev pub BADHANDLE : ℕ
BADHANDLE = 10001

abbrev pub NOT_SYNC : ℕ
NOT_SYNC = 10002

abbrev pub BAD_COOKIE : ℕ
BAD_COOKIE = 10003

abbrev pub NOTSUPP : ℕ
NOTSUPP = 10004

abbrev pub TOOSMALL : ℕ
TOOSMALL = 10005

abbrev pub SERVERFAULT : ℕ
SERVERFAULT = 10006

abbrev pub statuses : List ℕ
statuses =
    OK ∷ NOENT ∷ ACCES ∷ EXIST ∷ NOTDIR ∷ INVAL ∷ FBIG ∷ NOSPC ∷ MLINK ∷ NAMETOOLONG ∷ NOTEMPTY ∷ STALE ∷ BADHANDLE
    ∷ NOT_SYNC ∷ BAD_COOKIE ∷ NOTSUPP ∷ TOOSMALL ∷ SERVERFAULT ∷ []

-- "With no live handle a failure body holds this many zero words, procedures 1 to 21: 0 2 1 1 1 1 2 2 2 2 2 2 2 4 3 1 1 1 1 1 2."
abbrev pub zero_words : List ℕ
zero_words = 0 ∷ 0 ∷ 2 ∷ 1 ∷ 1 ∷ 1 ∷ 1 ∷ 2 ∷ 2 ∷ 2 ∷ 2 ∷ 2 ∷ 2 ∷ 2 ∷ 4 ∷ 3 ∷ 1 ∷ 1 ∷ 1 ∷ 1 ∷ 1 ∷ 2 ∷ []

-- NULL, GETATTR, SETATTR, LOOKUP, ACCESS, READLINK, READ, WRITE, CREATE, MKDIR, SYMLINK, MKNOD, REMOVE, RMDIR, RENAME, LINK,
-- READDIR, READDIRPLUS, FSSTAT, FSINFO, PATHCONF, COMMIT (RFC 1813 section 3)
abbrev pub procedures : List ℕ
procedures = 0 ∷ 1 ∷ 2 ∷ 3 ∷ 4 ∷ 5 ∷ 6 ∷ 7 ∷ 8 ∷ 9 ∷ 10 ∷ 11 ∷ 12 ∷ 13 ∷ 14 ∷ 15 ∷ 16 ∷ 17 ∷ 18 ∷ 19 ∷ 20 ∷ 21 ∷ []

-- msg_type CALL, REPLY; reply_stat MSG_ACCEPTED, MSG_DENIED; reject_stat RPC_MISMATCH; the RPC version, the program and its version;
-- accept_stat SUCCESS, PROG_UNAVAIL, PROG_MISMATCH, PROC_UNAVAIL, GARBAGE_ARGS (RFC 5531 section 9)
abbrev pub messages : List ℕ
messages = 0 ∷ 1 ∷ 0 ∷ 1 ∷ 0 ∷ 2 ∷ 100003 ∷ 3 ∷ 0 ∷ 1 ∷ 2 ∷ 3 ∷ 4 ∷ []

-- "Types: 0 free, 1 regular, 2 directory."
abbrev pub FREE : ℕ
FREE = 0

abbrev pub REGULAR : ℕ
REGULAR = 1

abbrev pub DIRECTORY : ℕ
DIRECTORY = 2

abbrev pub kinds : List ℕ
kinds = FREE ∷ REGULAR ∷ DIRECTORY ∷ []

-- "reply space under 4,224 bytes"
abbrev pub least_reply_bytes : ℕ
least_reply_bytes = 4224

-- "call over 8,192 bytes"
abbrev pub most_call_bytes : ℕ
most_call_bytes = 8192

-- "nanoseconds 1,000,000,000 or more"
abbrev pub nanoseconds_end : ℕ
nanoseconds_end = 1000000000

-- "P, 1 to 64"
abbrev pub most_objects : ℕ
most_objects = 64

-- "Q, 0 to 128"
abbrev pub most_name_records : ℕ
most_name_records = 128

-- "R, 0 to 1,024"
abbrev pub most_blocks : ℕ
most_blocks = 1024

-- "16 two-byte block numbers, unused 65535"
abbrev pub file_blocks : ℕ
file_blocks = 16

abbrev pub unused_block : ℕ
unused_block = 65535

-- "a flag word: 1 on a regular file that keeps one": a verifier
abbrev pub kept_flag : ℕ
kept_flag = 1

-- "a file's size at most 8,192"
abbrev pub most_file_bytes : ℕ
most_file_bytes = 8192

-- "4,294,967,295 is never given out"
abbrev pub spent_generation : ℕ
spent_generation = 4294967295

-- "modes at most 4,095"
abbrev pub most_mode : ℕ
most_mode = 4095

-- "used names 1 to 32 bytes"
abbrev pub most_name_bytes : ℕ
most_name_bytes = 32

-- "A handle is 12 bytes"
abbrev pub handle_length : ℕ
handle_length = 12

-- "a handle over 64 bytes"
abbrev pub most_handle_bytes : ℕ
most_handle_bytes = 64

-- "a credential or verifier over 400 bytes"
abbrev pub most_credential_bytes : ℕ
most_credential_bytes = 400

-- "n = min(count, 4096)": the most bytes that one READ, WRITE or READDIR moves
abbrev pub most_transfer_bytes : ℕ
most_transfer_bytes = 4096

-- E7: "The store check admits 1 to 16 names per file"; "linkmax becomes 16"
abbrev pub most_links : ℕ
most_links = 16

-- "Answers FILE_SYNC"
abbrev pub file_sync : ℕ
file_sync = 2

-- E7: "properties 0x19"
abbrev pub file_system_properties : ℕ
file_system_properties = 0x19

-- "The result body after the status costs 104 bytes plus 24 + padded name each"
abbrev pub listing_cost : ℕ
listing_cost = 104

abbrev pub entry_fixed_cost : ℕ
entry_fixed_cost = 24

-- "the request's bits within 0x2D for files, 0x1F for directories"
abbrev pub file_rights : ℕ
file_rights = 0x2D

abbrev pub directory_rights : ℕ
directory_rights = 0x1F

-- all of them, in this order
abbrev pub limits : List ℕ
limits =
    least_reply_bytes ∷ most_call_bytes ∷ nanoseconds_end ∷ most_objects ∷ most_name_records ∷ most_blocks ∷ file_blocks ∷ unused_block
    ∷ kept_flag ∷ most_file_bytes ∷ spent_generation ∷ most_mode ∷ most_name_bytes ∷ handle_length ∷ most_handle_bytes ∷ most_credential_bytes
    ∷ most_transfer_bytes ∷ most_links ∷ file_sync ∷ file_system_properties ∷ listing_cost ∷ entry_fixed_cost ∷ file_rights ∷ directory_rights ∷ []

-- the answers: done, store fails its check, reply space, clock, call over 8,192 bytes, "5 for under 8 bytes", format, "7 for a message type other
-- than 0, 8 for a header cut short, 9 for an overlong credential or verifier"; and "a table that fails its check 12"
abbrev pub answers : List ℕ
answers = 0 ∷ 1 ∷ 2 ∷ 3 ∷ 4 ∷ 5 ∷ 6 ∷ 7 ∷ 8 ∷ 9 ∷ 12 ∷ []
