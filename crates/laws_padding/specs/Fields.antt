-- The fields of opaque data that are read of a call: handles, names, data, and the bodies of credential and verifier. Of a call that is
-- refused, those that are read up to the refusal.
use Rattle.std.specs.Prelude.{ℕ, cond, List, [], ◌∷◌, ◌++◌, leb, eqb}
use Rattle.kinds.specs.Numbers.{most_credential_bytes, most_handle_bytes}
use Rattle.kinds.specs.Reading.{Read, got, bad}
use Rattle.kinds.specs.declared.call.Part.{Part}
use Rattle.kinds.specs.declared.call.Header.{Header}
use Rattle.kinds.specs.declared.call.Header.TheVariants as Header
use Rattle.kinds.specs.declared.call.NameIn.{NameIn}
use Rattle.kinds.specs.declared.call.Arguments.{Arguments}
use Rattle.kinds.specs.declared.call.Arguments.TheVariants as Call
use Rattle.spec.specs.Arguments.{handle, name_in, Form, none, handle_then, name_then, unread, form}
use Rattle.spec.specs.Checked.{Checked, refused, passed}
use Rattle.spec.specs.Header.{credential, header}
use Rattle.spec.specs.Rpc.{nfs, judge}
use Rattle.spec.specs.Xdr.{Reader, word, long, choice, no_maximum}

-- the fields that are read from a position of the call on: of each the part of the call that its bytes are, without length and padding
abbrev pub Fields : Type 0
Fields = List ℕ → ℕ → List Part

abbrev pub no_fields : Fields
no_fields s at = []

-- some, and then others
infixr 5 ◌also◌
abbrev pub ◌also◌ : Fields → Fields → Fields
◌also◌ these those s at = these s at ++ those s at

abbrev pub behind : {A : Type 0} → Read A → (A → ℕ → List Part) → List Part
behind (got a at) k = k a at
behind (bad p) k = []

-- those behind what a reader reads: "The first field that can't be read ends the reading."
infixl 10 ◌>>=◌
abbrev pub ◌>>=◌ : {A : Type 0} → Reader A → (A → Fields) → Fields
◌>>=◌ p k s at = behind (p s at) (λ a next. k a s next)

abbrev pub length_read : ℕ → Read ℕ → List Part
length_read most (got n at) = cond (leb n most) (record { start = at; length = n } ∷ []) []
length_read most (bad p) = []

-- one field of at most so many bytes: there is one where its length can be read and is allowed, even if its bytes or its padding are cut
unfoldable pub opaque_field : ℕ → Fields
opaque_field most s at = length_read most (word s at)

-- ---- the header
-- opaque_auth: flavor, body
unfoldable pub credential_fields : Fields
credential_fields = do
  flavor ← word
  opaque_field most_credential_bytes

-- behind the RPC version 2: program, version, procedure, cred, verf
unfoldable pub call_header_fields : Fields
call_header_fields = do
  program ← word
  version ← word
  procedure ← word
  credential_fields also (do
    cred ← credential
    credential_fields)

-- xid, message type, RPC version
unfoldable pub header_fields : Fields
header_fields = do
  xid ← word
  type ← choice 0
  rpc ← word
  cond (eqb rpc 2) call_header_fields no_fields

-- ---- the arguments
-- diropargs3: dir, name
unfoldable pub name_in_fields : Fields
name_in_fields = opaque_field most_handle_bytes also (do
  directory ← handle
  opaque_field no_maximum)

-- WRITE3args behind file: offset, count, stable, data
unfoldable pub data_fields : Fields
data_fields = do
  offset ← long
  count ← word
  stable ← choice 2
  opaque_field no_maximum

-- behind a procedure's first handle or name: WRITE has data, RENAME another name, LINK a name, no other procedure has any
abbrev pub later_fields : ℕ → Fields
later_fields p = cond (eqb p 7) data_fields (cond (eqb p 14) name_in_fields (cond (eqb p 15) name_in_fields no_fields))

abbrev pub formed_fields : ℕ → Form → Fields
formed_fields p none = no_fields
formed_fields p (handle_then rest) = opaque_field most_handle_bytes also (do
  object ← handle
  later_fields p)
formed_fields p (name_then rest) = name_in_fields also (do
  place ← name_in
  later_fields p)
formed_fields p unread = no_fields

unfoldable pub argument_fields : ℕ → Fields
argument_fields p = formed_fields p (form p)

-- ---- the call
-- the arguments are read where the program, the version and the procedure are ours
abbrev pub judged_fields : ℕ → Checked (Unit {0}) → Fields
judged_fields p (refused stat) = no_fields
judged_fields p (passed _) = argument_fields p

abbrev pub headed_fields : Header → Fields
headed_fields (Header.OtherVersion xid) = no_fields
headed_fields (Header.Call h) = judged_fields h.procedure (judge nfs h)

abbrev pub call_fields : Fields
call_fields = header_fields also (do
  h ← header
  headed_fields h)

-- the fields of a call, from its first byte on
unfoldable pub fields_of : List ℕ → List Part
fields_of call = call_fields call 0

-- ---- the parts that what was read consists of
abbrev pub name_parts : NameIn → List Part
name_parts x = x.directory ∷ x.name ∷ []

abbrev pub argument_parts : Arguments → List Part
argument_parts Call.Null = []
argument_parts (Call.Getattr object) = object ∷ []
argument_parts (Call.Setattr object attributes given) = object ∷ []
argument_parts (Call.Lookup place) = name_parts place
argument_parts (Call.Access object bits) = object ∷ []
argument_parts (Call.Read file offset count) = file ∷ []
argument_parts (Call.Write file offset count bytes) = file ∷ bytes ∷ []
argument_parts (Call.Create place manner) = name_parts place
argument_parts (Call.Mkdir place attributes) = name_parts place
argument_parts (Call.Remove place) = name_parts place
argument_parts (Call.Rmdir place) = name_parts place
argument_parts (Call.Rename old new) = name_parts old ++ name_parts new
argument_parts (Call.Link file place) = file ∷ name_parts place
argument_parts (Call.Readdir directory cookie verifier count) = directory ∷ []
argument_parts (Call.Fsstat object) = object ∷ []
argument_parts (Call.Fsinfo object) = object ∷ []
argument_parts (Call.Pathconf object) = object ∷ []
argument_parts (Call.Commit file) = file ∷ []
argument_parts Call.Unserved = []

abbrev pub header_parts : Header → List Part
header_parts (Header.OtherVersion xid) = []
header_parts (Header.Call h) = h.credential.body ∷ h.verifier.body ∷ []
