-- Stores, calls and replies for worked examples, written in words from document 01 and RFC 1813.
use Prim.Native.Nat.{ℕ, ◌+◌, ◌-◌, ◌*◌}
use lib.ListN.{length, replicate}
use mathlib.Core.List.{List, [], ◌∷◌, ◌++◌}
use Rattle.kinds.specs.declared.object.Context.{Context}
use Rattle.spec.specs.Arguments.{handle, unbounded, name_in, time, set_number, set_size, set_time, settable, guard, how, form, arguments}
use Rattle.spec.specs.Bytes.{part, overlay, zeros, digits, be_of, bytes_of, be_at, words, opaque_bytes, same_bytes, pairs, all_bytes}
use Rattle.spec.specs.Check.{is_zero, good_counts, good_shape, good_time, good_block, good_size, good_verifier, good_live, good_free, good_object, good_root}
use Rattle.spec.specs.Check.{good_used, good_name_record, is_distinct, good_namings, is_used_once, leads_to_root, records_pass, passes}
use Rattle.spec.specs.Convert.{old_names, old_blocks, old_shape, lengthened, converted, is_named_once, good_old}
use Rattle.spec.specs.Count.{sum, count, every, some_below, passing, lowest, times, iterate}
use Rattle.spec.specs.Edits.{with_attributes, set_attributes, with_verifier, forget_verifier, clear_blocks, clear_tail, block_numbers, with_size, resize}
use Rattle.spec.specs.Edits.{with_generation, create_object, remove_object, remove_name, move_name, write_through, read_through, write_file, read_file}
use Rattle.spec.specs.Handles.{handle_of, reach, reach_directory, check_name, size_attribute, used_bytes, link_count, attributes, before, change}
use Rattle.spec.specs.Handles.{handle_attributes, handle_change}
use Rattle.spec.specs.Header.{credential, call_header, header, header_fault}
use Rattle.spec.specs.Image.{Store, volumes, stamp, objects, names, blocks, halves_at, halves_bytes, time_at, time_bytes, object_from, head_bytes}
use Rattle.spec.specs.Image.{times_bytes, verifier_bytes, object_bytes, object_at, put_object, name_from, name_bytes, name_at, name_length, put_name}
use Rattle.spec.specs.Names.{is_dot, is_dot_dot, good_byte, good_bytes, good_name}
use Rattle.spec.specs.Procedures.{act}
use Rattle.spec.specs.Procedures.Attributes.{bad_attributes, lacks_room, size_touches, getattr, check_setattr, setattr_edit, setattr, granted_bits, access}
use Rattle.spec.specs.Procedures.Data.{reach_regular, read_length, read_result, read, check_write, write_edit, write_store, write_done, write, commit}
use Rattle.spec.specs.Procedures.Link.{check_added, check_link, link_edit, fail_linking, link}
use Rattle.spec.specs.Procedures.Listing.{entry_of, dot_entries, entries, entries_above, fitting, check_listing, check_readdir_in, check_readdir, readdir}
use Rattle.spec.specs.Procedures.Names.{look_in, check_in, check_lookup, lookup, room_for_new, new_object, new_edit, is_made_by, check_existing, check_new}
use Rattle.spec.specs.Procedures.Names.{check_how, check_create, create, check_mkdir, mkdir}
use Rattle.spec.specs.Procedures.Removal.{check_entry, check_remove, has_entries, check_rmdir, remove_from, remove, rmdir, is_within}
use Rattle.spec.specs.Procedures.Removal.{is_replaceable, check_replace, check_move, check_rename, move_edit, fail_renaming, rename}
use Rattle.spec.specs.Procedures.Volume.{fsstat, fsinfo, pathconf}
use Rattle.spec.specs.Replies.{fattr3, post_op, pre_op, wcc_data, entry_bytes, entries_bytes, result_bytes}
use Rattle.spec.specs.Results.{fail_showing, fail_changing}
use Rattle.spec.specs.Room.{is_live, is_regular, is_directory, size_of, held, uses, is_free_block, free_blocks, free_block_count, is_available}
use Rattle.spec.specs.Room.{available_count, available_object, is_used_name, available_name, free_name_count, is_naming, namings, is_in, is_named}
use Rattle.spec.specs.Room.{find_name, compared_at, compared, subdirectories, parent, above, byte_at}
use Rattle.spec.specs.Rpc.{denied, accepted, judge, mismatch}
use Rattle.spec.specs.Serve.{Outcome, serve, check, formatted, format, convert}
use Rattle.spec.specs.Xdr.{number, word, long, choice, flag, bytes, opaque, end}

-- a clock, a verifier and a reply space of 4,224 bytes whose bytes are not zero
abbrev pub context : Context
context = record { clock = record { seconds = 5; nanoseconds = 6 }; verifier = 8 }

abbrev pub space : List ℕ
space = replicate 4224 165

-- a store of stamp 9, formatted with counts p, q, r
abbrev pub fresh : ℕ → ℕ → ℕ → Store
fresh p q r = (format (zeros (20 + 92 * p + 44 * q + 512 * r)) 9 p q r context.clock).store

-- a call of procedure p with xid 7, credential and verifier of flavor 0 and length 0
abbrev pub call_to : ℕ → List ℕ → List ℕ
call_to p rest = words (7 ∷ 0 ∷ 2 ∷ 100003 ∷ 3 ∷ p ∷ 0 ∷ 0 ∷ 0 ∷ 0 ∷ []) ++ rest

abbrev pub served : List ℕ → Store → Outcome
served call s = serve call s space context

-- the store after calls in a row
abbrev pub after : List (List ℕ) → Store → Store
after [] s = s
after (c ∷ cs) s = after cs (served c s).store

-- the outcome of a call whose reply is these bytes, with an offset beside it, and which leaves the store t: nothing past the reply changes
abbrev pub replied_at : ℕ → List ℕ → Store → Outcome
replied_at offset reply t =
    record { number = 0; length = length reply; offset = offset; space = reply ++ replicate (4224 - length reply) 165; store = t }

abbrev pub replied : List ℕ → Store → Outcome
replied reply t = replied_at 0 reply t

-- GARBAGE_ARGS to xid 7
abbrev pub garbage : List ℕ
garbage = words (7 ∷ 1 ∷ 0 ∷ 0 ∷ 0 ∷ 4 ∷ [])

-- the words of an accepted reply to xid 7
abbrev pub answered : List ℕ → List ℕ
answered rest = words (7 ∷ 1 ∷ 0 ∷ 0 ∷ 0 ∷ 0 ∷ rest)

-- the status word of a reply
abbrev pub status_sent : Outcome → ℕ
status_sent o = be_at o.space 24 4

-- the handle of object o at generation 0, as XDR
abbrev pub handle_to : ℕ → List ℕ
handle_to o = words (12 ∷ 9 ∷ o ∷ 0 ∷ [])

-- GETATTR of object o
abbrev pub getattr_call : ℕ → List ℕ
getattr_call o = call_to 1 (handle_to o)

-- LOOKUP, CREATE (UNCHECKED, nothing set), MKDIR and REMOVE of a name in the root
abbrev pub lookup_call : List ℕ → List ℕ
lookup_call name = call_to 3 (handle_to 0 ++ opaque_bytes name)

abbrev pub create_call : List ℕ → List ℕ
create_call name = call_to 8 (handle_to 0 ++ opaque_bytes name ++ words (0 ∷ 0 ∷ 0 ∷ 0 ∷ 0 ∷ 0 ∷ 0 ∷ []))

abbrev pub mkdir_call : List ℕ → List ℕ
mkdir_call name = call_to 9 (handle_to 0 ++ opaque_bytes name ++ words (0 ∷ 0 ∷ 0 ∷ 0 ∷ 0 ∷ 0 ∷ []))

abbrev pub remove_call : List ℕ → List ℕ
remove_call name = call_to 12 (handle_to 0 ++ opaque_bytes name)

-- WRITE of bytes at an offset below 2^32, FILE_SYNC, and READ of 100 bytes from the start, on object o
abbrev pub write_call : ℕ → ℕ → List ℕ → List ℕ
write_call o offset bytes = call_to 7 (handle_to o ++ words (0 ∷ offset ∷ length bytes ∷ 2 ∷ []) ++ opaque_bytes bytes)

abbrev pub read_call : ℕ → List ℕ
read_call o = call_to 6 (handle_to o ++ words (0 ∷ 0 ∷ 100 ∷ []))

-- READDIR of the root from a cookie
abbrev pub readdir_call : ℕ → ℕ → List ℕ
readdir_call cookie count = call_to 16 (handle_to 0 ++ words (0 ∷ cookie ∷ 0 ∷ 0 ∷ count ∷ []))

-- the attributes of the root that was just formatted
abbrev pub root_words : List ℕ
root_words = 2 ∷ 493 ∷ 2 ∷ 0 ∷ 0 ∷ 0 ∷ 512 ∷ 0 ∷ 0 ∷ 0 ∷ 0 ∷ 0 ∷ 9 ∷ 0 ∷ 1 ∷ 5 ∷ 6 ∷ 5 ∷ 6 ∷ 5 ∷ 6 ∷ []

-- the names 0123456789 and 123456789, and "a"
abbrev pub tag0123456789 : List ℕ
tag0123456789 = 0x30 ∷ 0x31 ∷ 0x32 ∷ 0x33 ∷ 0x34 ∷ 0x35 ∷ 0x36 ∷ 0x37 ∷ 0x38 ∷ 0x39 ∷ []

abbrev pub tag123456789 : List ℕ
tag123456789 = 0x31 ∷ 0x32 ∷ 0x33 ∷ 0x34 ∷ 0x35 ∷ 0x36 ∷ 0x37 ∷ 0x38 ∷ 0x39 ∷ []

abbrev pub name_a : List ℕ
name_a = 0x61 ∷ []

-- a store with a root alone; with the file "a" and room for sixteen blocks; with the file "a" and no blocks; with both tags, of which one holds
-- "A" and the other "BC"
abbrev pub root_alone : Store
root_alone = fresh 1 0 0

abbrev pub with_a : Store
with_a = after (create_call name_a ∷ []) (fresh 2 1 16)

abbrev pub without_blocks : Store
without_blocks = after (create_call name_a ∷ []) (fresh 2 1 0)

abbrev pub with_tags : Store
with_tags = after (create_call tag0123456789 ∷ create_call tag123456789 ∷ write_call 1 0 (0x41 ∷ []) ∷ write_call 2 0 (0x42 ∷ 0x43 ∷ []) ∷ []) (fresh 3 2 2)

-- a file's reply to READ: its attributes, the count, eof and the bytes
abbrev pub file_read : ℕ → List ℕ → List ℕ
file_read fileid bytes =
    answered (0 ∷ 1 ∷ 1 ∷ 0 ∷ 1 ∷ 0 ∷ 0 ∷ 0 ∷ length bytes ∷ 0 ∷ 512 ∷ 0 ∷ 0 ∷ 0 ∷ 9 ∷ 0 ∷ fileid ∷ 5 ∷ 6 ∷ 5 ∷ 6 ∷ 5 ∷ 6 ∷ length bytes ∷ 1 ∷ length
    bytes ∷ [])
    ++ bytes ++ zeros (4 - length bytes)

-- SETATTR of object o by 24 bytes or more of sattr3 words and a guard
abbrev pub setattr_call : ℕ → List ℕ → List ℕ
setattr_call o rest = call_to 2 (handle_to o ++ words rest)

-- CREATE of a name in the root by createhow3 words, MKDIR by sattr3 words, RMDIR, and RENAME from one directory to another
abbrev pub create_by : List ℕ → List ℕ → List ℕ
create_by name how = call_to 8 (handle_to 0 ++ opaque_bytes name ++ words how)

abbrev pub mkdir_by : List ℕ → List ℕ → List ℕ
mkdir_by name attributes = call_to 9 (handle_to 0 ++ opaque_bytes name ++ words attributes)

abbrev pub rmdir_call : List ℕ → List ℕ
rmdir_call name = call_to 13 (handle_to 0 ++ opaque_bytes name)

abbrev pub rename_call : ℕ → List ℕ → ℕ → List ℕ → List ℕ
rename_call d name e title = call_to 14 (handle_to d ++ opaque_bytes name ++ handle_to e ++ opaque_bytes title)

-- LINK of object o to a name in directory d
abbrev pub link_call : ℕ → ℕ → List ℕ → List ℕ
link_call o d name = call_to 15 (handle_to o ++ handle_to d ++ opaque_bytes name)

abbrev pub name_b : List ℕ
name_b = 0x62 ∷ []

-- the answer's number alone
abbrev pub answer_to : List ℕ → Store → List ℕ → ℕ → ℕ
answer_to call s room nanoseconds = (serve call s room (record { clock = record { seconds = 5; nanoseconds = nanoseconds }; verifier = 8 })).number

abbrev pub name_c : List ℕ
name_c = 0x63 ∷ []

-- MKDIR of a name in directory d, with nothing set
abbrev pub mkdir_in : ℕ → List ℕ → List ℕ
mkdir_in d name = call_to 9 (handle_to d ++ opaque_bytes name ++ words (0 ∷ 0 ∷ 0 ∷ 0 ∷ 0 ∷ 0 ∷ []))

-- the directories a and a/b with room for one object more; the directories a, a/b and a/b/c
abbrev pub two_directories : Store
two_directories = after (mkdir_in 0 name_a ∷ mkdir_in 1 name_b ∷ []) (fresh 4 3 0)

abbrev pub three_directories : Store
three_directories = after (mkdir_in 2 name_c ∷ []) two_directories

-- another clock: 7 s 8 ns
abbrev pub later : Context
later = record { clock = record { seconds = 7; nanoseconds = 8 }; verifier = 8 }

-- EXCLUSIVE CREATE of a name in the root with a verifier of two words, and what a record of the store holds after a call: four bytes at an index
abbrev pub exclusive_call : List ℕ → ℕ → ℕ → List ℕ
exclusive_call name high low = create_by name (2 ∷ high ∷ low ∷ [])

abbrev pub word_after : List ℕ → Store → ℕ → ℕ
word_after call s at = be_at (served call s).store at 4

-- what computing an entry unfolds: naming `computing` on an `unfolding` line unfolds all of these
unfoldable pub computing : ℕ
unfolding handle unbounded name_in time set_number set_size set_time settable guard how form arguments part overlay digits be_of bytes_of be_at words
    opaque_bytes same_bytes pairs all_bytes is_zero good_counts good_shape good_time good_block good_size good_verifier good_live good_free good_object good_root good_used
    good_name_record is_distinct good_namings is_used_once leads_to_root records_pass passes old_names old_blocks old_shape lengthened converted is_named_once good_old sum every
    some_below passing lowest times iterate with_attributes set_attributes with_verifier forget_verifier clear_blocks clear_tail block_numbers with_size
    resize with_generation create_object remove_object remove_name move_name write_through read_through write_file read_file handle_of reach reach_directory check_name
    size_attribute used_bytes link_count attributes before change handle_attributes handle_change credential call_header header header_fault volumes stamp objects names blocks halves_at
    halves_bytes time_at time_bytes object_from head_bytes times_bytes verifier_bytes object_bytes object_at put_object name_from name_bytes name_at name_length
    put_name is_dot is_dot_dot good_byte good_bytes good_name act bad_attributes lacks_room size_touches getattr check_setattr setattr_edit setattr granted_bits
    access reach_regular read_length read_result read check_write write_edit write_store write_done write commit entry_of dot_entries entries entries_above
    fitting check_listing check_readdir_in check_readdir readdir look_in check_in check_lookup lookup room_for_new new_object new_edit is_made_by check_existing
    check_new check_how check_create create check_mkdir mkdir check_entry check_remove has_entries check_rmdir remove_from remove rmdir is_within is_replaceable
    check_replace check_move check_rename move_edit fail_renaming rename check_added check_link link_edit fail_linking link fsstat fsinfo pathconf fattr3 post_op pre_op wcc_data entry_bytes entries_bytes result_bytes
    fail_showing fail_changing is_live is_regular is_directory size_of held uses is_free_block free_blocks free_block_count is_available available_count available_object
    is_used_name available_name free_name_count is_naming namings is_in is_named find_name compared_at compared subdirectories parent above byte_at denied accepted
    judge mismatch serve check formatted format convert number word long choice flag bytes opaque end
computing = 0
