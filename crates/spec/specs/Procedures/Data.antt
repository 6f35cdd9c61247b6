-- READ, WRITE and COMMIT.
use Rattle.std.specs.Prelude.{ℕ, ◌+◌, ◌-◌, min, max, eqb, leb, ltb, length, take, ◌&&◌, not, cond, List}
use Rattle.kinds.specs.Numbers.{INVAL, FBIG, NOSPC, most_file_bytes, most_transfer_bytes}
use Rattle.kinds.specs.declared.object.Context.{Context}
use Rattle.spec.specs.Checked.{Checked, ◌>>=◌, ◌>>◌, refuse_if, passed}
use Rattle.spec.specs.Edits.{set_attributes, mtime_and_ctime, resize, write_file, read_file}
use Rattle.spec.specs.Handles.{reach, attributes, change}
use Rattle.spec.specs.Image.{Store}
use Rattle.spec.specs.Procedures.Attributes.{lacks_room}
use Rattle.spec.specs.Results.{Result, Done, unchanged, fail_showing, fail_changing, settle, got_bytes, wrote, committed}
use Rattle.spec.specs.Room.{is_regular, size_of}

-- "not regular, INVAL"
unfoldable pub reach_regular : Store → List ℕ → Checked ℕ
reach_regular s h = do
  o ← reach s h
  refuse_if (not (is_regular s o)) INVAL
  passed o

-- "n = min(count, 4096, bytes left); eof when offset + n is at least size. Nothing changes; atime stays."
unfoldable pub read_length : Store → ℕ → ℕ → ℕ → ℕ
read_length s o offset count = min (min count most_transfer_bytes) (size_of s o - offset)

unfoldable pub read_result : Store → ℕ → ℕ → ℕ → Result
read_result s o offset count =
    let n = read_length s o offset count in got_bytes (attributes s o) (leb (size_of s o) (offset + n)) (read_file s o offset n)

unfoldable pub read : Store → List ℕ → ℕ → ℕ → Done
read s h offset count = settle s (fail_showing s h) (reach_regular s h) (λ o. unchanged s (read_result s o offset count))

-- the size after a write of n bytes: "Size becomes max(size, offset + n)"
abbrev pub grown : Store → ℕ → ℕ → ℕ → ℕ
grown s o offset n = max (size_of s o) (offset + n)

-- "count unlike the data's length, INVAL. n = min(count, 4096). n = 0 succeeds and changes nothing. offset + n over 8,192, FBIG. Too few
-- free blocks, NOSPC."
unfoldable pub check_write : Store → List ℕ → ℕ → ℕ → List ℕ → Checked ℕ
check_write s h offset count bytes = do
  o ← reach_regular s h
  refuse_if (not (eqb count (length bytes))) INVAL
  refuse_if (not (eqb count 0) && ltb most_file_bytes (offset + min count most_transfer_bytes)) FBIG
  refuse_if (not (eqb count 0) && lacks_room s (size_of s o) (grown s o offset (min count most_transfer_bytes))) NOSPC
  passed o

-- "Size becomes max(size, offset + n), a gap reads zero; mtime and ctime set."
unfoldable pub write_edit : Store → Context → ℕ → ℕ → List ℕ → Store
write_edit s c o offset bytes =
    set_attributes (write_file (resize s o (grown s o offset (length bytes))) o offset bytes) c.clock o mtime_and_ctime

-- "n = 0 succeeds and changes nothing"
unfoldable pub write_store : Store → Context → ℕ → ℕ → List ℕ → Store
write_store s c o offset bytes = cond (eqb (length bytes) 0) s (write_edit s c o offset bytes)

-- "Answers FILE_SYNC and the 64-bit verifier given by the caller"
unfoldable pub write_done : Store → Context → ℕ → ℕ → List ℕ → Done
write_done s c o offset bytes =
    let t = write_store s c o offset bytes in record { result = wrote (change s t o) (length bytes) c.verifier; store = t }

unfoldable pub write : Store → Context → List ℕ → ℕ → ℕ → List ℕ → Done
write s c h offset count bytes =
    settle s (fail_changing s h) (check_write s h offset count bytes) (λ o. write_done s c o offset (take (min count most_transfer_bytes) bytes))

-- "COMMIT (not regular: INVAL)"
unfoldable pub commit : Store → Context → List ℕ → Done
commit s c h = settle s (fail_changing s h) (reach_regular s h) (λ o. unchanged s (committed (change s s o) c.verifier))
