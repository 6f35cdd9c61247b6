-- What each reply value stands for, by the store that it is written from.
use Rattle.std.proofs.Math.Option.{Option, some, none}
use Rattle.std.specs.Prelude as Code
use Rattle.std.specs.Prelude.{take, Some, None}
use Rattle.kinds.specs.declared.object.Attributes.{Attributes}
use Rattle.kinds.specs.declared.object.Change.{Change}
use Rattle.kinds.specs.declared.numbers.ObjectNumber.{ObjectNumber}
use Rattle.spec.specs.Image.{Store}
use Rattle.spec.specs.Handles.{handle_of, attributes, before}
use Rattle.spec.specs.Edits.{read_file}
use Rattle.spec.specs.Procedures.Listing.{entries, entries_above}
use Rattle.spec.specs.Results.{Result, null, dead, failed, changed, renamed, linked, got_attributes, found, granted, got_bytes, wrote, created, listed, got_room}
use Rattle.spec.specs.Results.{got_limits, got_naming, committed}
use Rattle.results.specs.declared.ObjectChange.{ObjectChange}
use Rattle.results.specs.declared.Reply.{Reply}

-- an object's attributes before a call, and after it, in t
abbrev pub change_in : Store → ObjectChange → Change
change_in t c = record { before = c.before; after = attributes t c.object.0 }

abbrev pub handle_change_in : Store → Code.Option ObjectChange → Option Change
handle_change_in t None = none
handle_change_in t (Some c) = some (change_in t c)

abbrev pub handle_attributes_in : Store → Code.Option ObjectNumber → Option Attributes
handle_attributes_in t None = none
handle_attributes_in t (Some o) = some (attributes t o.0)

-- an object that a call has not changed
abbrev pub as_it_is : Store → ObjectNumber → ObjectChange
as_it_is s o = record { before = before s o.0; object = o }

-- attributes, handles, the bytes of a file and the entries of a directory are the store's
abbrev pub result_of : Store → Reply → Result
result_of s Reply.Null = null
result_of s (Reply.Dead status) = dead status.0
result_of s (Reply.Failed status o) = failed status.0 (attributes s o.0)
result_of s (Reply.Changed status c) = changed status.0 (change_in s c)
result_of s (Reply.Renamed status c d) = renamed status.0 (handle_change_in s c) (handle_change_in s d)
result_of s (Reply.Linked status o c) = linked status.0 (handle_attributes_in s o) (handle_change_in s c)
result_of s (Reply.GotAttributes o) = got_attributes (attributes s o.0)
result_of s (Reply.Found o d) = found (handle_of s o.0) (attributes s o.0) (attributes s d.0)
result_of s (Reply.Granted o bits) = granted (attributes s o.0) bits
result_of s (Reply.GotBytes o eof offset n) = got_bytes (attributes s o.0) eof (read_file s o.0 offset n)
result_of s (Reply.Wrote c count verifier) = wrote (change_in s c) count verifier
result_of s (Reply.Created o d) = created (handle_of s o.0) (attributes s o.0) (change_in s d)
result_of s (Reply.Listed d eof cookie n) = listed (attributes s d.0) (take n (entries_above cookie (entries s d.0))) eof
result_of s (Reply.GotRoom o total free objects available) = got_room (attributes s o.0) total free objects available
result_of s (Reply.GotLimits o) = got_limits (attributes s o.0)
result_of s (Reply.GotNaming o) = got_naming (attributes s o.0)
result_of s (Reply.Committed c verifier) = committed (change_in s c) verifier
