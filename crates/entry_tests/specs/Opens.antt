-- What the tests before a reply say of serve.
use Rattle.std.specs.Prelude.{ℕ, ◌≤◌, List, ◌≡◌, length, Result, Ok, Err}
use Rattle.kinds.specs.Numbers.{least_reply_bytes, most_call_bytes}
use Rattle.kinds.specs.Reading.{place_of, read_of}
use Rattle.kinds.specs.declared.call.Arguments.{Arguments}
use Rattle.kinds.specs.declared.call.Cursor.{Cursor}
use Rattle.kinds.specs.declared.call.Header.{Header}
use Rattle.kinds.specs.declared.numbers.Fault.{Fault}
use Rattle.kinds.specs.declared.object.Context.{Context}
use Rattle.kinds.specs.declared.reading.BadField.{BadField}
use Rattle.spec.specs.Arguments.{arguments}
use Rattle.spec.specs.Image.{Store}
use Rattle.spec.specs.Serve.{refuse, send, respond, serve}
use Rattle.store_blocks.specs.Ready.{Ready}
use Rattle.rpc.specs.Meaning.{named_procedure}
use Rattle.rpc.specs.declared.admit.Heard.{Heard}

-- every test passed, and the call is answered by its header, which ends at `at`, and by what was read of the arguments there, within the call: what
-- its procedure asks of the store, the map and the clock holds
pub record Hears (call : List ℕ) (s : Store) (space : List ℕ) (c : Context) (used : List ℕ) (h : Header) (at : ℕ) (a : Result (Arguments × Cursor) BadField) : Type 0 where
  pub serves : serve call s space c ≡ send space (respond s c call h at)
  pub room : least_reply_bytes ≤ length space
  pub ready : Ready s used c
  pub read : read_of a ≡ arguments (named_procedure h) call at
  pub inside : place_of (read_of a) ≤ most_call_bytes

-- the call is refused with a number and an offset, or heard
abbrev pub Opens : List ℕ → Store → List ℕ → Context → List ℕ → Result (Heard Arguments) Fault → Type 0
Opens call s space c used (Err f) = serve call s space c ≡ refuse f space s
Opens call s space c used (Ok x) = Hears call s space c used x.header x.after.at x.arguments
