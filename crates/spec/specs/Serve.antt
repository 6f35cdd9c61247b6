-- The four entries: for any bytes, what each answers and what it leaves in the lent buffers.
use Rattle.std.specs.Prelude.{ℕ, ◌*◌, ◌-◌, List, [], ◌∷◌, ◌++◌, not, cond, eqb, ltb, length}
use Rattle.kinds.specs.Numbers.{least_reply_bytes, most_call_bytes}
use Rattle.kinds.specs.Layout.{object_length, name_record_length, block_length}
use Rattle.kinds.specs.Reading.{Read, got, bad}
use Rattle.kinds.specs.Objects.{root_object}
use Rattle.kinds.specs.declared.object.Time.{Time}
use Rattle.kinds.specs.declared.object.Context.{Context}
use Rattle.kinds.specs.declared.numbers.Fault.{Fault}
use Rattle.kinds.specs.declared.call.CallHeader.{CallHeader}
use Rattle.kinds.specs.declared.call.Header.{Header}
use Rattle.kinds.specs.declared.call.Header.TheVariants as Header
use Rattle.kinds.specs.declared.call.Arguments.{Arguments}
use Rattle.spec.specs.Bytes.{overlay, zeros, words}
use Rattle.spec.specs.Image.{Store, objects, object_bytes}
use Rattle.spec.specs.Check.{good_counts, image_length, good_time, passes}
use Rattle.spec.specs.Convert.{old_names, old_blocks, converted, good_old}
use Rattle.spec.specs.Arguments.{arguments}
use Rattle.spec.specs.Procedures.{act}
use Rattle.spec.specs.Results.{Done}
use Rattle.spec.specs.Replies.{result_bytes}
use Rattle.spec.specs.Header.{header, fault, header_fault}
use Rattle.spec.specs.Rpc.{denied, accepted, nfs, SUCCESS, GARBAGE_ARGS, judge, mismatch}
use Rattle.spec.specs.Checked.{Checked, refused, passed, ◌>>◌, refuse_if}

-- an entry's outcome: the answer's number, the reply's length, the offset at which the call broke, the reply space and the store
pub record Outcome : Type 0 where
  pub number : ℕ
  pub length : ℕ
  pub offset : ℕ
  pub space : List ℕ
  pub store : Store

-- "Answers 1 to 6, and every number added later, return length 0 and change nothing in any lent buffer."
abbrev pub refuse : Fault → List ℕ → Store → Outcome
refuse f space s = record { number = f.number; length = 0; offset = f.offset; space = space; store = s }

-- a reply, the offset beside it, and the store after the call
pub record Sent : Type 0 where
  pub reply : List ℕ
  pub offset : ℕ
  pub store : Store

-- "On 0, reply bytes past the length stay."
abbrev pub send : List ℕ → Sent → Outcome
send space t = record { number = 0; length = length t.reply; offset = t.offset; space = overlay space 0 t.reply; store = t.store }

-- a procedure's reply
abbrev pub finish : CallHeader → Done → Sent
finish h d = record { reply = accepted h.xid SUCCESS (result_bytes h.procedure d.result); offset = 0; store = d.store }

-- "arguments not exactly the XDR type, GARBAGE_ARGS"; "For GARBAGE_ARGS the entry also reports that offset (the first byte left over, if that is the
-- fault); in all other cases it is 0."
abbrev pub perform : Store → Context → List ℕ → CallHeader → Read Arguments → Sent
perform s c call h (bad p) = record { reply = accepted h.xid GARBAGE_ARGS []; offset = p; store = s }
perform s c call h (got a next) = finish h (act s c call a)

abbrev pub answer : Store → Context → List ℕ → CallHeader → ℕ → Checked (Unit {0}) → Sent
answer s c call h at (refused stat) = record { reply = accepted h.xid stat (mismatch nfs stat); offset = 0; store = s }
answer s c call h at (passed _) = perform s c call h (arguments h.procedure call at)

-- "Then, in order: RPC version not 2 is denied with RPC_MISMATCH 2 2; .."
abbrev pub respond : Store → Context → List ℕ → Header → ℕ → Sent
respond s c call (Header.OtherVersion xid) at = record { reply = denied xid; offset = 0; store = s }
respond s c call (Header.Call h) at = answer s c call h at (judge nfs h)

-- "Answer 5 splits": a header that cannot be read is refused by its first faulty field
abbrev pub complete : List ℕ → Store → Context → List ℕ → Read Header → Outcome
complete space s c call (bad p) = refuse (header_fault call p) space s
complete space s c call (got h at) = send space (respond s c call h at)

abbrev pub outcome : List ℕ → Store → Checked Outcome → Outcome
outcome space s (refused number) = refuse (fault number 0) space s
outcome space s (passed o) = o

-- the call entry: its tests in the table's order, 2, 3, 4, 1, and then the header, 5, 7, 8, 9
unfoldable pub serve : List ℕ → Store → List ℕ → Context → Outcome
serve call s space c = outcome space s (do
  refuse_if (ltb (length space) least_reply_bytes) 2
  refuse_if (not (good_time c.clock)) 3
  refuse_if (ltb most_call_bytes (length call)) 4
  refuse_if (not (passes s)) 1
  passed (complete space s c call (header call 0)))

-- the check entry: 0 or 1
unfoldable pub check : Store → ℕ
check s = cond (passes s) 0 1

-- "Format gives a root of mode 493, ids 0, times from the clock, every generation 0, all else free and zero."
unfoldable pub formatted : ℕ → ℕ → ℕ → ℕ → Time → Store
formatted stamp p q r clock =
    words (1 ∷ stamp ∷ p ∷ []) ++ object_bytes (root_object clock) ++ zeros (object_length * (p - 1))
    ++ words (q ∷ []) ++ zeros (name_record_length * q)
    ++ words (r ∷ []) ++ zeros (block_length * r)

-- the answer of an entry that writes a whole store, and the buffer after it
pub record Written : Type 0 where
  pub number : ℕ
  pub store : Store

abbrev pub written_if : Store → Store → Checked (Unit {0}) → Written
written_if s t (refused number) = record { number = number; store = s }
written_if s t (passed _) = record { number = 0; store = t }

-- the format entry: "answers 3, 6 or 0"; "6 | format: a count out of range, or buffer not of exactly that length | after 3"
unfoldable pub format : Store → ℕ → ℕ → ℕ → ℕ → Time → Written
format s stamp p q r clock = written_if s (formatted stamp p q r clock) (do
  refuse_if (not (good_time clock)) 3
  refuse_if (not (good_counts p q r)) 6
  refuse_if (not (eqb (length s) (image_length p q r))) 6)

-- the converter: "it answers 1 for a bad old image, then 6 for a target not of exactly the new length, target untouched"
unfoldable pub convert : List ℕ → Store → Written
convert old s = written_if s (converted old) (do
  refuse_if (not (good_old old)) 1
  refuse_if (not (eqb (length s) (image_length (objects old) (old_names old) (old_blocks old)))) 6)
