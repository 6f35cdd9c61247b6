-- The argument types of RFC 1813, as readers in the order of their XDR.
use Rattle.std.specs.Prelude.{ℕ, cond, eqb, Option, Some, None}
use Rattle.kinds.specs.Numbers.{most_handle_bytes}
use Rattle.kinds.specs.Reading.{Read}
use Rattle.kinds.specs.declared.object.Time.{Time}
use Rattle.kinds.specs.declared.call.Part.{Part}
use Rattle.kinds.specs.declared.call.SetTime.{SetTime}
use Rattle.kinds.specs.declared.call.SetTime.TheVariants as SetTime
use Rattle.kinds.specs.declared.call.Settable.{Settable}
use Rattle.kinds.specs.declared.call.NameIn.{NameIn}
use Rattle.kinds.specs.declared.call.How.{How}
use Rattle.kinds.specs.declared.call.How.TheVariants as How
use Rattle.kinds.specs.declared.call.Arguments.{Arguments}
use Rattle.kinds.specs.declared.call.Arguments.TheVariants as Call
use Rattle.spec.specs.Xdr.{Reader, ◌>>=◌, ◌>>◌, done, word, long, choice, optional, opaque, no_maximum, end}

-- nfs_fh3: "a handle over 64 bytes" is refused
unfoldable pub handle : Reader Part
handle = opaque most_handle_bytes

-- filename3, and the data of WRITE
unfoldable pub unbounded : Reader Part
unbounded = opaque no_maximum

-- diropargs3: dir, name
unfoldable pub name_in : Reader NameIn
name_in = do
  directory ← handle
  name ← unbounded
  done (record { directory = directory; name = name })

-- nfstime3: seconds, nseconds
unfoldable pub time : Reader Time
time = do
  seconds ← word
  nanoseconds ← word
  done (record { seconds = seconds; nanoseconds = nanoseconds })

-- set_mode3, set_uid3, set_gid3
unfoldable pub set_number : Reader (Option ℕ)
set_number = optional word Some None

-- set_size3
unfoldable pub set_size : Reader (Option ℕ)
set_size = optional long Some None

-- set_atime, set_mtime: DONT_CHANGE 0, SET_TO_SERVER_TIME 1, SET_TO_CLIENT_TIME 2 with a time
unfoldable pub set_time : Reader SetTime
set_time = do
  manner ← choice 2
  cond (eqb manner 0) (done SetTime.Keep)
      (cond (eqb manner 1) (done SetTime.ToServer) (do
        t ← time
        done (SetTime.ToClient t)))

-- sattr3
unfoldable pub settable : Reader Settable
settable = do
  mode ← set_number
  uid ← set_number
  gid ← set_number
  size ← set_size
  atime ← set_time
  mtime ← set_time
  done (record { mode = mode; uid = uid; gid = gid; size = size; atime = atime; mtime = mtime })

-- sattrguard3: obj_ctime
unfoldable pub guard : Reader (Option Time)
guard = optional time Some None

-- createhow3: UNCHECKED 0 and GUARDED 1 with attributes, EXCLUSIVE 2 with a verifier of 8 bytes
unfoldable pub how : Reader How
how = do
  mode ← choice 2
  cond (eqb mode 2) (do
    verifier ← long
    done (How.Exclusive verifier)) (do
      attributes ← settable
      done (cond (eqb mode 0) (How.Unchecked attributes) (How.Guarded attributes)))

-- ---- the argument types: what follows their first field, which is an nfs_fh3 or a diropargs3 and has been read
-- SETATTR3args: object, new_attributes, guard
abbrev pub setattr_arguments : Part → Reader Arguments
setattr_arguments object = do
  attributes ← settable
  given ← guard
  done (Call.Setattr object attributes given)

-- ACCESS3args: object, access
abbrev pub access_arguments : Part → Reader Arguments
access_arguments object = do
  bits ← word
  done (Call.Access object bits)

-- READ3args: file, offset, count
abbrev pub read_arguments : Part → Reader Arguments
read_arguments file = do
  offset ← long
  count ← word
  done (Call.Read file offset count)

-- WRITE3args: file, offset, count, stable (UNSTABLE 0, DATA_SYNC 1, FILE_SYNC 2), data
abbrev pub write_arguments : Part → Reader Arguments
write_arguments file = do
  offset ← long
  count ← word
  stable ← choice 2
  bytes ← unbounded
  done (Call.Write file offset count bytes)

-- CREATE3args: where, how
abbrev pub create_arguments : NameIn → Reader Arguments
create_arguments place = do
  manner ← how
  done (Call.Create place manner)

-- MKDIR3args: where, attributes
abbrev pub mkdir_arguments : NameIn → Reader Arguments
mkdir_arguments place = do
  attributes ← settable
  done (Call.Mkdir place attributes)

-- RENAME3args: from, to
abbrev pub rename_arguments : NameIn → Reader Arguments
rename_arguments old = do
  new ← name_in
  done (Call.Rename old new)

-- LINK3args: file, link
abbrev pub link_arguments : Part → Reader Arguments
link_arguments file = do
  place ← name_in
  done (Call.Link file place)

-- READDIR3args: dir, cookie, cookieverf, count
abbrev pub readdir_arguments : Part → Reader Arguments
readdir_arguments directory = do
  cookie ← long
  verifier ← long
  count ← word
  done (Call.Readdir directory cookie verifier count)

-- COMMIT3args: file, offset, count
abbrev pub commit_arguments : Part → Reader Arguments
commit_arguments file = do
  offset ← long
  count ← word
  done (Call.Commit file)

-- GETATTR3args and the others with one field
abbrev pub alone : {A : Type 0} → (A → Arguments) → A → Reader Arguments
alone f a = done (f a)

-- ---- the arguments of a procedure
-- there are none; a handle comes first, or a name in a directory, and then this; they stay unread
pub data Form : Type 0 where
  none : Form
  handle_then : (Part → Reader Arguments) → Form
  name_then : (NameIn → Reader Arguments) → Form
  unread : Form

-- the procedures 0 to 21; "The other five answer NOTSUPP with their arguments unread."; E7: "Serve LINK", so they are four
unfoldable pub form : ℕ → Form
form p =
    cond (eqb p 0) none
    (cond (eqb p 1) (handle_then (alone Call.Getattr))
    (cond (eqb p 2) (handle_then setattr_arguments)
    (cond (eqb p 3) (name_then (alone Call.Lookup))
    (cond (eqb p 4) (handle_then access_arguments)
    (cond (eqb p 6) (handle_then read_arguments)
    (cond (eqb p 7) (handle_then write_arguments)
    (cond (eqb p 8) (name_then create_arguments)
    (cond (eqb p 9) (name_then mkdir_arguments)
    (cond (eqb p 12) (name_then (alone Call.Remove))
    (cond (eqb p 13) (name_then (alone Call.Rmdir))
    (cond (eqb p 14) (name_then rename_arguments)
    (cond (eqb p 15) (handle_then link_arguments)
    (cond (eqb p 16) (handle_then readdir_arguments)
    (cond (eqb p 18) (handle_then (alone Call.Fsstat))
    (cond (eqb p 19) (handle_then (alone Call.Fsinfo))
    (cond (eqb p 20) (handle_then (alone Call.Pathconf))
    (cond (eqb p 21) (handle_then commit_arguments)
    unread)))))))))))))))))

-- "arguments not exactly the XDR type": a type of RFC 1813, and then the end of the call
abbrev pub whole : Reader Arguments → Reader Arguments
whole p = do
  a ← p
  end
  done a

abbrev pub formed : Form → Reader Arguments
formed none = whole (done Call.Null)
formed (handle_then rest) = whole (do
  object ← handle
  rest object)
formed (name_then rest) = whole (do
  place ← name_in
  rest place)
formed unread = done Call.Unserved

unfoldable pub arguments : ℕ → Reader Arguments
arguments p = formed (form p)
