-- The bytes of each reply, as RFC 5531 and RFC 1813 write their structures.
use Rattle.std.specs.Prelude.{ℕ, ◌/◌, ◌%◌, List, [], ◌∷◌, ◌++◌, length, get_or, replicate}
use Rattle.std.proofs.Math.Option.{Option, some, none}
use Rattle.kinds.specs.Numbers.{OK, zero_words, most_file_bytes, most_name_bytes, most_transfer_bytes, most_links, file_sync, file_system_properties}
use Rattle.kinds.specs.declared.object.Time.{Time}
use Rattle.kinds.specs.declared.object.Attributes.{Attributes}
use Rattle.kinds.specs.declared.object.Before.{Before}
use Rattle.kinds.specs.declared.object.Change.{Change}
use Rattle.spec.specs.Bytes.{words, opaque_bytes}
use Rattle.spec.specs.Count.{bit}
use Rattle.spec.specs.Results.{Entry, Result, null, dead, failed, changed, renamed, linked, got_attributes, found, granted, got_bytes, wrote, created}
use Rattle.spec.specs.Results.{listed, got_room, got_limits, got_naming, committed}

-- uint64, as two words
abbrev pub hyper : ℕ → List ℕ
hyper v = v / 4294967296 ∷ v % 4294967296 ∷ []

-- nfstime3
abbrev pub time3 : Time → List ℕ
time3 t = t.seconds ∷ t.nanoseconds ∷ []

-- fattr3: "rdev 0"; numbers of 64 bits have 0 as their high word
unfoldable pub fattr3 : Attributes → List ℕ
fattr3 a =
    (a.kind ∷ a.mode ∷ a.nlink ∷ a.uid ∷ a.gid ∷ 0 ∷ a.size ∷ 0 ∷ a.used ∷ 0 ∷ 0 ∷ 0 ∷ a.fsid ∷ 0 ∷ a.fileid ∷ [])
    ++ time3 a.atime ++ time3 a.mtime ++ time3 a.ctime

-- post_op_attr, where it is present
unfoldable pub post_op : Attributes → List ℕ
post_op a = 1 ∷ fattr3 a

abbrev pub post_op_option : Option Attributes → List ℕ
post_op_option none = 0 ∷ []
post_op_option (some a) = post_op a

-- pre_op_attr, where it is present: wcc_attr
unfoldable pub pre_op : Before → List ℕ
pre_op b = (1 ∷ 0 ∷ b.size ∷ []) ++ time3 b.mtime ++ time3 b.ctime

-- wcc_data: both present, or both absent
unfoldable pub wcc_data : Change → List ℕ
wcc_data c = pre_op c.before ++ post_op c.after

abbrev pub wcc_option : Option Change → List ℕ
wcc_option none = 0 ∷ 0 ∷ []
wcc_option (some c) = wcc_data c

-- entry3: value follows, fileid, name, cookie
unfoldable pub entry_bytes : Entry → List ℕ
entry_bytes e = words (1 ∷ hyper e.fileid) ++ opaque_bytes e.name ++ words (hyper e.cookie)

unfoldable pub entries_bytes : List Entry → List ℕ
entries_bytes [] = []
entries_bytes (e ∷ es) = entry_bytes e ++ entries_bytes es

-- the results of a procedure: the status and what follows it
unfoldable pub result_bytes : ℕ → Result → List ℕ
result_bytes p null = []
-- "With no live handle a failure body holds this many zero words, procedures 1 to 21"
result_bytes p (dead status) = words (status ∷ replicate (get_or zero_words p 0) 0)
result_bytes p (failed status a) = words (status ∷ post_op a)
result_bytes p (changed status c) = words (status ∷ wcc_data c)
result_bytes p (renamed status c d) = words (status ∷ wcc_option c ++ wcc_option d)
result_bytes p (linked status a c) = words (status ∷ post_op_option a ++ wcc_option c)
result_bytes p (got_attributes a) = words (OK ∷ fattr3 a)
result_bytes p (found h a d) = words (OK ∷ []) ++ opaque_bytes h ++ words (post_op a ++ post_op d)
result_bytes p (granted a bits) = words (OK ∷ post_op a ++ (bits ∷ []))
result_bytes p (got_bytes a eof bytes) = words (OK ∷ post_op a ++ (length bytes ∷ bit eof ∷ [])) ++ opaque_bytes bytes
-- committed: FILE_SYNC, 2
result_bytes p (wrote c count verifier) = words (OK ∷ wcc_data c ++ (count ∷ file_sync ∷ hyper verifier))
result_bytes p (created h a d) = words (OK ∷ 1 ∷ []) ++ opaque_bytes h ++ words (post_op a ++ wcc_data d)
-- the reply's cookie verifier is zero
result_bytes p (listed a es eof) = words (OK ∷ post_op a ++ hyper 0) ++ entries_bytes es ++ words (0 ∷ bit eof ∷ [])
result_bytes p (got_room a total free objects available) =
    words (OK ∷ post_op a ++ hyper total ++ hyper free ++ hyper free ++ hyper objects ++ hyper available ++ hyper available ++ (0 ∷ []))
-- "FSINFO: 4096, 4096, 1 for read and write, 4096, 8192, delta 0 s 1 ns"; E7: "properties 0x19"
result_bytes p (got_limits a) =
    words (OK ∷ post_op a ++ (most_transfer_bytes ∷ most_transfer_bytes ∷ 1 ∷ most_transfer_bytes ∷ most_transfer_bytes ∷ 1 ∷ most_transfer_bytes ∷ hyper most_file_bytes)
    ++ (0 ∷ 1 ∷ file_system_properties ∷ []))
-- E7: "linkmax becomes 16"; "PATHCONF: .., 32, true, false, false, true."
result_bytes p (got_naming a) = words (OK ∷ post_op a ++ (most_links ∷ most_name_bytes ∷ 1 ∷ 0 ∷ 0 ∷ 1 ∷ []))
result_bytes p (committed c verifier) = words (OK ∷ wcc_data c ++ hyper verifier)
