-- The entry of MOUNT version 3: for any bytes, what it answers and what it leaves in the lent buffers.
use Rattle.std.specs.Prelude.{ℕ, List, [], not, ltb, length}
use Rattle.kinds.specs.Mount.{mount_program, mount_version, least_mount_reply_bytes}
use Rattle.kinds.specs.Numbers.{most_call_bytes}
use Rattle.kinds.specs.Reading.{Read, got, bad}
use Rattle.kinds.specs.declared.numbers.Fault.{Fault}
use Rattle.kinds.specs.declared.call.CallHeader.{CallHeader}
use Rattle.kinds.specs.declared.call.Header.{Header}
use Rattle.kinds.specs.declared.call.Header.TheVariants as Header
use Rattle.kinds.specs.declared.mount.MountArguments.{MountArguments}
use Rattle.spec.specs.Bytes.{overlay}
use Rattle.spec.specs.Check.{passes}
use Rattle.spec.specs.Checked.{Checked, refused, passed, ◌>>◌, refuse_if}
use Rattle.spec.specs.Header.{header, fault, header_fault}
use Rattle.spec.specs.Image.{Store}
use Rattle.spec.specs.Rpc.{Program, denied, accepted, SUCCESS, GARBAGE_ARGS, judge, mismatch}
use Rattle.mount_spec.specs.Arguments.{mount_arguments}
use Rattle.mount_spec.specs.Procedures.{MountDone, act_mount}
use Rattle.mount_spec.specs.Replies.{mount_result_bytes}
use Rattle.mount_spec.specs.Table.{Table, passes_table}

-- "Program 100005 version 3"; "for procedures 0 to 5"
abbrev pub mount3 : Program
mount3 = record { number = mount_program; lowest = mount_version; highest = mount_version; last = 5 }

-- the entry's outcome: the answer's number, the reply's length, the offset at which the call broke, the reply space and the table
pub record MountOutcome : Type 0 where
  pub number : ℕ
  pub length : ℕ
  pub offset : ℕ
  pub space : List ℕ
  pub table : Table

-- a refusal has length 0 and changes nothing
abbrev pub refuse_mount : Fault → List ℕ → Table → MountOutcome
refuse_mount f space t = record { number = f.number; length = 0; offset = f.offset; space = space; table = t }

-- a reply, the offset beside it, and the table after the call
pub record MountSent : Type 0 where
  pub reply : List ℕ
  pub offset : ℕ
  pub table : Table

-- "On 0, reply bytes past the length stay."
abbrev pub send_mount : List ℕ → MountSent → MountOutcome
send_mount space m = record { number = 0; length = length m.reply; offset = m.offset; space = overlay space 0 m.reply; table = m.table }

-- a procedure's reply
abbrev pub finish_mount : Store → CallHeader → MountDone → MountSent
finish_mount s h d = record { reply = accepted h.xid SUCCESS (mount_result_bytes s d.table d.result); offset = 0; table = d.table }

-- "arguments not exactly the XDR type, GARBAGE_ARGS"; "For GARBAGE_ARGS the entry also reports that offset .. in all other cases it is 0."
abbrev pub perform_mount : Store → Table → ℕ → List ℕ → CallHeader → Read MountArguments → MountSent
perform_mount s t host call h (bad p) = record { reply = accepted h.xid GARBAGE_ARGS []; offset = p; table = t }
perform_mount s t host call h (got a next) = finish_mount s h (act_mount s t host call a)

abbrev pub answer_mount : Store → Table → ℕ → List ℕ → CallHeader → ℕ → Checked (Unit {0}) → MountSent
answer_mount s t host call h at (refused stat) = record { reply = accepted h.xid stat (mismatch mount3 stat); offset = 0; table = t }
answer_mount s t host call h at (passed _) = perform_mount s t host call h (mount_arguments h.procedure call at)

-- the RPC outcomes, as the file service has them
abbrev pub respond_mount : Store → Table → ℕ → List ℕ → Header → ℕ → MountSent
respond_mount s t host call (Header.OtherVersion xid) at = record { reply = denied xid; offset = 0; table = t }
respond_mount s t host call (Header.Call h) at = answer_mount s t host call h at (judge mount3 h)

-- "Answer 5 splits, MOUNT's too": a header that cannot be read is refused by its first faulty field, as the file service does it
abbrev pub complete_mount : List ℕ → Store → Table → ℕ → List ℕ → Read Header → MountOutcome
complete_mount space s t host call (bad p) = refuse_mount (header_fault call p) space t
complete_mount space s t host call (got h at) = send_mount space (respond_mount s t host call h at)

abbrev pub mount_outcome : List ℕ → Table → Checked MountOutcome → MountOutcome
mount_outcome space t (refused number) = refuse_mount (fault number 0) space t
mount_outcome space t (passed o) = o

-- "Tests run as in document 01, without a clock ..; here reply space under 33,692 bytes gets answer 2, and a table that fails its check 12, tested
-- after 1.": 2, 4, 1, 12, and then the header, 5, 7, 8, 9
unfoldable pub serve_mount : List ℕ → Store → Table → List ℕ → ℕ → MountOutcome
serve_mount call s t space host = mount_outcome space t (do
  refuse_if (ltb (length space) least_mount_reply_bytes) 2
  refuse_if (ltb most_call_bytes (length call)) 4
  refuse_if (not (passes s)) 1
  refuse_if (not (passes_table t)) 12
  passed (complete_mount space s t host call (header call 0)))
