-- Handles, and the attributes that replies show.
use Rattle.std.specs.Prelude.{ℕ, ◌+◌, ◌*◌, List, [], ◌∷◌, not, cond, eqb, leb, length}
use Rattle.std.proofs.Math.Option.{Option, some, none}
use Rattle.kinds.specs.Layout.{block_length}
use Rattle.kinds.specs.Numbers.{NOTDIR, ACCES, NAMETOOLONG, STALE, BADHANDLE, most_name_bytes, handle_length}
use Rattle.kinds.specs.declared.object.Attributes.{Attributes}
use Rattle.kinds.specs.declared.object.Before.{Before}
use Rattle.kinds.specs.declared.object.Change.{Change}
use Rattle.spec.specs.Bytes.{words, be_at}
use Rattle.spec.specs.Image.{Store, stamp, objects, object_at}
use Rattle.spec.specs.Room.{is_live, is_directory, size_of, need, namings, subdirectories}
use Rattle.spec.specs.Names.{good_bytes}
use Rattle.spec.specs.Checked.{Checked, refused, passed, ◌>>=◌, ◌>>◌, refuse_if}

-- "A handle is 12 bytes: stamp, object, generation."
unfoldable pub handle_of : Store → ℕ → List ℕ
handle_of s o = words (stamp s ∷ o ∷ (object_at s o).generation ∷ [])

-- "Other length, or object not below P: BADHANDLE. Other stamp, free, or other generation: STALE."
unfoldable pub reach : Store → List ℕ → Checked ℕ
reach s h = do
  refuse_if (not (eqb (length h) handle_length)) BADHANDLE
  refuse_if (leb (objects s) (be_at h 4 4)) BADHANDLE
  refuse_if (not (eqb (be_at h 0 4) (stamp s))) STALE
  refuse_if (not (is_live s (be_at h 4 4))) STALE
  refuse_if (not (eqb (be_at h 8 4) (object_at s (be_at h 4 4)).generation)) STALE
  passed (be_at h 4 4)

-- "Checks run: handle (BADHANDLE, STALE), NOTDIR"
unfoldable pub reach_directory : Store → List ℕ → Checked ℕ
reach_directory s h = do
  d ← reach s h
  refuse_if (not (is_directory s d)) NOTDIR
  passed d

-- "name (empty ACCES; over 32 NAMETOOLONG; byte 0 or 0x2F ACCES)"
unfoldable pub check_name : List ℕ → Checked (Unit {0})
check_name text = do
  refuse_if (eqb (length text) 0) ACCES
  refuse_if (not (leb (length text) most_name_bytes)) NAMETOOLONG
  refuse_if (not (good_bytes text)) ACCES

-- "Directory size 512"
unfoldable pub size_attribute : Store → ℕ → ℕ
size_attribute s o = cond (is_directory s o) 512 (size_of s o)

-- "Directory .. used 0; file used is 512 times its blocks."
unfoldable pub used_bytes : Store → ℕ → ℕ
used_bytes s o = block_length * need (size_of s o)

-- "nlink: .. directory 2 plus its subdirectories."; E7: "A file's nlink counts its names"
unfoldable pub link_count : Store → ℕ → ℕ
link_count s o = cond (is_directory s o) (2 + subdirectories s o) (namings s o)

-- "fsid is the stamp, fileid object plus 1"
unfoldable pub attributes : Store → ℕ → Attributes
attributes s o =
    record {
      kind = (object_at s o).kind;
      mode = (object_at s o).mode;
      nlink = link_count s o;
      uid = (object_at s o).uid;
      gid = (object_at s o).gid;
      size = size_attribute s o;
      used = used_bytes s o;
      fsid = stamp s;
      fileid = o + 1;
      atime = (object_at s o).atime;
      mtime = (object_at s o).mtime;
      ctime = (object_at s o).ctime;
    }

unfoldable pub before : Store → ℕ → Before
before s o = record { size = size_attribute s o; mtime = (object_at s o).mtime; ctime = (object_at s o).ctime }

-- object o before a call, in s, and after it, in t
unfoldable pub change : Store → Store → ℕ → Change
change s t o = record { before = before s o; after = attributes t o }

abbrev pub change_of : Store → Store → Checked ℕ → Option Change
change_of s t (refused status) = none
change_of s t (passed o) = some (change s t o)

-- "Every optional attribute is present exactly when its handle .. is live"
abbrev pub attributes_of : Store → Checked ℕ → Option Attributes
attributes_of s (refused status) = none
attributes_of s (passed o) = some (attributes s o)

unfoldable pub handle_attributes : Store → List ℕ → Option Attributes
handle_attributes s h = attributes_of s (reach s h)

unfoldable pub handle_change : Store → Store → List ℕ → Option Change
handle_change s t h = change_of s t (reach s h)
