-- A store, tables, calls and replies for worked examples, written from document 01, document 02 and RFC 1813.
use Prim.Native.Nat.{ℕ, zero, suc, ◌+◌, ◌-◌}
use lib.ListN.{length, replicate}
use mathlib.Core.List.{List, [], ◌∷◌, ◌++◌}
use Rattle.spec.specs.Bytes.{zeros, words, opaque_bytes}
use Rattle.spec.specs.Header.{header}
use Rattle.spec.specs.Image.{Store}
use Rattle.spec.proofs.Setting.{create_call, after, name_c, two_directories, computing}
use Rattle.mount_spec.specs.Path.{starts_with_slash, split, components, enter, walk, mount_point}
use Rattle.mount_spec.specs.Table.{Table, path_length, row_at, row_bytes, put_row, is_used_row, is_of_host, has_pair, good_used_row, good_row, is_only_pair}
use Rattle.mount_spec.specs.Table.{passes_table, find_pair, available_row, add_pair, remove_pair, strike_row, strike_rows, remove_host}
use Rattle.mount_spec.specs.Arguments.{dirpath, mount_arguments}
use Rattle.mount_spec.specs.Procedures.{check_mount, mount, act_mount}
use Rattle.mount_spec.specs.Replies.{decimal, dotted, mount_bytes, mounts_bytes, mount_result_bytes}
use Rattle.mount_spec.specs.Serve.{MountOutcome, send_mount, complete_mount, serve_mount}

-- the store: the directories a and a/b, objects 1 and 2, and the file c, object 3
abbrev pub lane : Store
lane = after (create_call name_c ∷ []) two_directories

-- the paths "/", "/a", "/a/b", "/c" and "/x"
abbrev pub top : List ℕ
top = 0x2F ∷ []

abbrev pub path_a : List ℕ
path_a = 0x2F ∷ 0x61 ∷ []

abbrev pub path_b : List ℕ
path_b = 0x2F ∷ 0x61 ∷ 0x2F ∷ 0x62 ∷ []

abbrev pub path_c : List ℕ
path_c = 0x2F ∷ 0x63 ∷ []

abbrev pub path_x : List ℕ
path_x = 0x2F ∷ 0x78 ∷ []

-- the host 192.0.2.1, and another
abbrev pub desk : ℕ
desk = 0xC0000201

abbrev pub gate : ℕ
gate = 0x0A00000A

-- a row of a host and a path, a table of rows whose others are free, and a table with all rows used, the paths "/" of the hosts 0 to 31
abbrev pub row : ℕ → List ℕ → List ℕ
row host path = words (host ∷ length path ∷ []) ++ path ++ zeros (1024 - length path)

abbrev pub free_rows : ℕ → List ℕ
free_rows zero = []
free_rows (suc n) = zeros 1032 ++ free_rows n

abbrev pub table1 : List ℕ → Table
table1 a = a ++ free_rows 31

abbrev pub table2 : List ℕ → List ℕ → Table
table2 a b = a ++ b ++ free_rows 30

abbrev pub table3 : List ℕ → List ℕ → List ℕ → Table
table3 a b c = a ++ b ++ c ++ free_rows 29

abbrev pub empty : Table
empty = free_rows 32

abbrev pub full_rows : ℕ → Table
full_rows zero = []
full_rows (suc n) = full_rows n ++ row n top

abbrev pub full : Table
full = full_rows 32

-- a call of procedure p with xid 7, from the host 192.0.2.1, on a table; the reply space has 33,692 bytes that are not zero
abbrev pub mount_call : ℕ → List ℕ → List ℕ
mount_call p rest = words (7 ∷ 0 ∷ 2 ∷ 100005 ∷ 3 ∷ p ∷ 0 ∷ 0 ∷ 0 ∷ 0 ∷ []) ++ rest

abbrev pub mnt_call : List ℕ → List ℕ
mnt_call path = mount_call 1 (opaque_bytes path)

abbrev pub umnt_call : List ℕ → List ℕ
umnt_call path = mount_call 3 (opaque_bytes path)

abbrev pub mount_space : List ℕ
mount_space = replicate 33692 165

abbrev pub sent : List ℕ → Table → MountOutcome
sent call t = serve_mount call lane t mount_space desk

-- what a call is answered on a table once the tests before it have passed, with no reply space; a reply, with an offset beside it, and the table
-- after it
abbrev pub heard : List ℕ → Table → MountOutcome
heard call t = complete_mount [] lane t desk call (header call 0)

abbrev pub answered_at : ℕ → List ℕ → Table → MountOutcome
answered_at offset reply t = send_mount [] (record { reply = reply; offset = offset; table = t })

abbrev pub answered_by : List ℕ → Table → MountOutcome
answered_by reply t = answered_at 0 reply t

-- the outcome of a call whose reply is these bytes and which leaves this table: nothing past the reply changes
abbrev pub mount_replied : List ℕ → Table → MountOutcome
mount_replied reply t = record { number = 0; length = length reply; offset = 0; space = reply ++ replicate (33692 - length reply) 165; table = t }

-- the bytes of an accepted reply to xid 7 with a result
abbrev pub mount_answered : List ℕ → List ℕ
mount_answered rest = words (7 ∷ 1 ∷ 0 ∷ 0 ∷ 0 ∷ 0 ∷ []) ++ rest

-- the handle of object o at generation 0 in an OK reply to MNT, and the two flavors
abbrev pub mounted_at : ℕ → List ℕ
mounted_at o = mount_answered (words (0 ∷ 12 ∷ 9 ∷ o ∷ 0 ∷ 2 ∷ 0 ∷ 1 ∷ []))

-- what computing an example unfolds
unfoldable pub mounting : ℕ
unfolding computing starts_with_slash split components enter walk mount_point path_length row_at row_bytes put_row is_used_row is_of_host has_pair good_used_row good_row
    is_only_pair passes_table find_pair available_row add_pair remove_pair strike_row strike_rows remove_host dirpath mount_arguments check_mount mount act_mount decimal
    dotted mount_bytes mounts_bytes mount_result_bytes serve_mount
mounting = 0
