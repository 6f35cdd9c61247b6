-- What a procedure gives: a result, with no XDR in it, and the store after it.
use Rattle.std.specs.Prelude.{ℕ, List, Bool}
use Rattle.std.proofs.Math.Option.{Option}
use Rattle.kinds.specs.declared.object.Attributes.{Attributes}
use Rattle.kinds.specs.declared.object.Change.{Change}
use Rattle.spec.specs.Image.{Store}
use Rattle.spec.specs.Handles.{reach, attributes, change}
use Rattle.spec.specs.Checked.{Checked, refused, passed}

-- one entry of a directory's listing
pub record Entry : Type 0 where
  pub fileid : ℕ
  pub name : List ℕ
  pub cookie : ℕ

pub data Result : Type 0 where
  -- NULL
  null : Result
  -- a failure with no live handle: the status
  dead : ℕ → Result
  -- a failure that shows the attributes of the handle's object
  failed : ℕ → Attributes → Result
  -- SETATTR, REMOVE and RMDIR, and every failure that shows a change: the status
  changed : ℕ → Change → Result
  -- RENAME: the status and what became of both directories
  renamed : ℕ → Option Change → Option Change → Result
  -- LINK: the status, the file's attributes and what became of the directory
  linked : ℕ → Option Attributes → Option Change → Result
  -- GETATTR
  got_attributes : Attributes → Result
  -- LOOKUP: the object's handle and attributes, and the directory's attributes
  found : List ℕ → Attributes → Attributes → Result
  -- ACCESS: the granted bits
  granted : Attributes → ℕ → Result
  -- READ: whether the end was reached, and the bytes
  got_bytes : Attributes → Bool → List ℕ → Result
  -- WRITE: the bytes written, and the caller's verifier
  wrote : Change → ℕ → ℕ → Result
  -- CREATE and MKDIR: the object's handle and attributes, and the directory's change
  created : List ℕ → Attributes → Change → Result
  -- READDIR: the entries, and whether nothing remains
  listed : Attributes → List Entry → Bool → Result
  -- FSSTAT: total bytes, free bytes, objects, available objects
  got_room : Attributes → ℕ → ℕ → ℕ → ℕ → Result
  -- FSINFO, PATHCONF
  got_limits : Attributes → Result
  got_naming : Attributes → Result
  -- COMMIT: the caller's verifier
  committed : Change → ℕ → Result

pub record Done : Type 0 where
  pub result : Result
  pub store : Store

-- a result that leaves the store as it is
abbrev pub unchanged : Store → Result → Done
unchanged s r = record { result = r; store = s }

-- the failure of a call that shows attributes, and of one that shows a change: "failure bodies carry before equal to after"
abbrev pub showing_of : Store → ℕ → Checked ℕ → Result
showing_of s status (refused _) = dead status
showing_of s status (passed o) = failed status (attributes s o)

abbrev pub changing_of : Store → ℕ → Checked ℕ → Result
changing_of s status (refused _) = dead status
changing_of s status (passed o) = changed status (change s s o)

unfoldable pub fail_showing : Store → List ℕ → ℕ → Result
fail_showing s h status = showing_of s status (reach s h)

unfoldable pub fail_changing : Store → List ℕ → ℕ → Result
fail_changing s h status = changing_of s status (reach s h)

-- a refusal leaves the store; what passed goes on
abbrev pub settle : {A : Type 0} → Store → (ℕ → Result) → Checked A → (A → Done) → Done
settle s fail (refused status) go = unchanged s (fail status)
settle s fail (passed a) go = go a
