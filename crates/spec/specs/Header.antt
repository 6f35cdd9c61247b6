-- The header of an RPC call (RFC 5531 section 9), as a reader, and the answer to a call whose header cannot be read.
use Rattle.std.specs.Prelude.{ℕ, ◌+◌, Bool, cond, ◌&&◌, List, eqb, ltb, leb, length}
use Rattle.kinds.specs.Numbers.{most_credential_bytes}
use Rattle.kinds.specs.declared.numbers.Fault.{Fault}
use Rattle.kinds.specs.declared.call.Credential.{Credential}
use Rattle.kinds.specs.declared.call.Header.{Header}
use Rattle.kinds.specs.declared.call.Header.TheVariants as Header
use Rattle.spec.specs.Bytes.{be_at}
use Rattle.spec.specs.Xdr.{Reader, ◌>>=◌, ◌>>◌, done, word, choice, opaque}

-- opaque_auth: "a credential or verifier over 400 bytes" is refused; any flavor is accepted, and any padding
unfoldable pub credential : Reader Credential
credential = do
  flavor ← word
  body ← opaque most_credential_bytes
  done (record { flavor = flavor; body = body })

-- what follows the RPC version 2
unfoldable pub call_header : ℕ → Reader Header
call_header xid = do
  program ← word
  version ← word
  procedure ← word
  cred ← credential
  verf ← credential
  done (Header.Call (record { xid = xid; program = program; version = version; procedure = procedure; credential = cred; verifier = verf }))

-- xid; message type CALL, 0; the RPC version. A call of another version than 2 is denied, whatever follows
unfoldable pub header : Reader Header
header = do
  xid ← word
  type ← choice 0
  rpc ← word
  cond (eqb rpc 2) (call_header xid) (done (Header.OtherVersion xid))

-- ---- a header that is refused at p, the place where its first faulty field starts: "The first faulty field in reading order decides"
abbrev pub fault : ℕ → ℕ → Fault
fault number offset = record { number = number; offset = offset }

-- "an overlong credential or verifier": the word at p is there, and over 400. It is then a length: the other words of a header, but for the
-- message type, are refused only where they are cut
abbrev pub is_overlong : List ℕ → ℕ → Bool
is_overlong call p = leb (p + 4) (length call) && ltb most_credential_bytes (be_at call p 4)

-- "5 for under 8 bytes, 7 for a message type other than 0, 8 for a header cut short, 9 for an overlong credential or verifier", "an overlong length
-- before a cut"; "8 and 9 carry the byte offset where that field starts". The message type is the word at 4
unfoldable pub header_fault : List ℕ → ℕ → Fault
header_fault call p =
    cond (ltb (length call) 8) (fault 5 0)
    (cond (eqb p 4) (fault 7 0)
    (cond (is_overlong call p) (fault 9 p)
    (fault 8 p)))
