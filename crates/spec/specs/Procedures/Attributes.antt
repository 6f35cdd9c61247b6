-- GETATTR, SETATTR and ACCESS, and the attributes that a call may set.
use Rattle.std.specs.Prelude.{ℕ, ◌-◌, eqb, leb, ltb, Bool, true, false, ◌&&◌, ◌||◌, not, cond, List, Option, Some, None}
use Rattle.std.specs.Int.Bits.{bit_and}
use Rattle.kinds.specs.Numbers.{OK, INVAL, NOSPC, NOT_SYNC, nanoseconds_end, most_file_bytes, most_mode, file_rights, directory_rights}
use Rattle.kinds.specs.declared.object.Time.{Time}
use Rattle.kinds.specs.declared.object.Context.{Context}
use Rattle.kinds.specs.declared.call.SetTime.{SetTime}
use Rattle.kinds.specs.declared.call.SetTime.TheVariants as SetTime
use Rattle.kinds.specs.declared.call.Settable.{Settable}
use Rattle.spec.specs.Checked.{Checked, ◌>>=◌, ◌>>◌, refuse_if, passed}
use Rattle.spec.specs.Edits.{set_attributes, forget_verifier, resize}
use Rattle.spec.specs.Handles.{reach, attributes, change}
use Rattle.spec.specs.Image.{Store, object_at}
use Rattle.spec.specs.Results.{Done, unchanged, fail_showing, fail_changing, settle, dead, changed, got_attributes, granted}
use Rattle.spec.specs.Room.{is_directory, size_of, need, free_block_count}

abbrev pub is_given : Option ℕ → Bool
is_given None = false
is_given (Some n) = true

-- the size that is given, or the old one
abbrev pub size_set : Option ℕ → ℕ → ℕ
size_set None old = old
size_set (Some n) old = n

abbrev pub number_over : ℕ → Option ℕ → Bool
number_over most None = false
number_over most (Some n) = ltb most n

-- "client nanoseconds of 1,000,000,000 or more"
abbrev pub bad_time : SetTime → Bool
bad_time SetTime.Keep = false
bad_time SetTime.ToServer = false
bad_time (SetTime.ToClient t) = leb nanoseconds_end t.nanoseconds

-- "INVAL for mode over 4,095, client nanoseconds of 1,000,000,000 or more, .. size over 8,192"
unfoldable pub bad_attributes : Settable → Bool
bad_attributes a = number_over most_mode a.mode || bad_time a.atime || bad_time a.mtime || ltb most_file_bytes (size_set a.size 0)

-- "NOSPC for growth past the free blocks": the blocks to be added for a file that grows from one size to another
unfoldable pub lacks_room : Store → ℕ → ℕ → Bool
lacks_room s old size = ltb (free_block_count s) (need size - need old)

-- "a size sets mtime unless mtime is given"
abbrev pub or_server : SetTime → SetTime
or_server SetTime.Keep = SetTime.ToServer
or_server SetTime.ToServer = SetTime.ToServer
or_server (SetTime.ToClient t) = SetTime.ToClient t

unfoldable pub size_touches : Settable → Settable
size_touches a =
    record {
      mode = a.mode;
      uid = a.uid;
      gid = a.gid;
      size = a.size;
      atime = a.atime;
      mtime = cond (is_given a.size) (or_server a.mtime) a.mtime;
    }

-- a file of the size that is given, where one is
abbrev pub resize_to : Store → ℕ → Option ℕ → Store
resize_to s o None = s
resize_to s o (Some n) = resize s o n

unfoldable pub getattr : Store → List ℕ → Done
getattr s h = settle s dead (reach s h) (λ o. unchanged s (got_attributes (attributes s o)))

-- the guard's ctime is not the object's
abbrev pub differs : Option Time → Time → Bool
differs None ctime = false
differs (Some t) ctime = not (eqb t.seconds ctime.seconds && eqb t.nanoseconds ctime.nanoseconds)

-- "guard differs, NOT_SYNC; then INVAL for mode over 4,095, client nanoseconds of 1,000,000,000 or more, size on a directory, size over
-- 8,192; then NOSPC for growth past the free blocks"
unfoldable pub check_setattr : Store → List ℕ → Settable → Option Time → Checked ℕ
check_setattr s h a g = do
  o ← reach s h
  refuse_if (differs g (object_at s o).ctime) NOT_SYNC
  refuse_if (bad_attributes a) INVAL
  refuse_if (is_given a.size && is_directory s o) INVAL
  refuse_if (lacks_room s (size_of s o) (size_set a.size (size_of s o))) NOSPC
  passed o

-- "Success sets ctime; a size sets mtime unless mtime is given."; "A successful SETATTR forgets the verifier."
unfoldable pub setattr_edit : Store → Context → ℕ → Settable → Store
setattr_edit s c o a = forget_verifier (set_attributes (resize_to s o a.size) c.clock o (size_touches a)) o

-- what an edit of the handle's own object gives: its change
abbrev pub edited : Store → ℕ → Store → Done
edited s o t = record { result = changed OK (change s t o); store = t }

unfoldable pub setattr : Store → Context → List ℕ → Settable → Option Time → Done
setattr s c h a g = settle s (fail_changing s h) (check_setattr s h a g) (λ o. edited s o (setattr_edit s c o a))

-- "the request's bits within 0x2D for files, 0x1F for directories"
unfoldable pub granted_bits : Store → ℕ → ℕ → ℕ
granted_bits s o bits = bit_and bits (cond (is_directory s o) directory_rights file_rights)

unfoldable pub access : Store → List ℕ → ℕ → Done
access s h bits = settle s (fail_showing s h) (reach s h) (λ o. unchanged s (granted (attributes s o) (granted_bits s o bits)))
