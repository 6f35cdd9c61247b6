-- What the tests before a reply say of serveMount.
use Rattle.std.specs.Prelude.{ℕ, ◌≤◌, List, ◌≡◌, length, Result, Ok, Err}
use Rattle.kinds.specs.Mount.{least_mount_reply_bytes}
use Rattle.kinds.specs.Numbers.{most_call_bytes}
use Rattle.kinds.specs.Reading.{place_of, read_of}
use Rattle.kinds.specs.declared.call.Cursor.{Cursor}
use Rattle.kinds.specs.declared.call.Header.{Header}
use Rattle.kinds.specs.declared.mount.MountArguments.{MountArguments}
use Rattle.kinds.specs.declared.numbers.Fault.{Fault}
use Rattle.kinds.specs.declared.reading.BadField.{BadField}
use Rattle.spec.specs.Image.{Store}
use Rattle.laws.proofs.GoodRecords.{GoodRecords}
use Rattle.rpc.specs.Meaning.{named_procedure}
use Rattle.rpc.specs.declared.admit.Heard.{Heard}
use Rattle.mount_spec.specs.Arguments.{mount_arguments}
use Rattle.mount_spec.specs.Serve.{refuse_mount, send_mount, respond_mount, serve_mount}
use Rattle.mount_spec.specs.Table.{Table}
use Rattle.mount_reply.specs.Fits.{Fits}

-- every test passed, and the call is answered by its header, which ends at `at`, and by what was read of the arguments there, within the call
pub record HearsMount (call : List ℕ) (s : Store) (t : Table) (space : List ℕ) (h : Header) (at : ℕ) (a : Result (MountArguments × Cursor) BadField) : Type 0 where
  pub serves : (host : ℕ) → serve_mount call s t space host ≡ send_mount space (respond_mount s t host call h at)
  pub room : least_mount_reply_bytes ≤ length space
  pub good : GoodRecords s
  pub fits : Fits t
  pub read : read_of a ≡ mount_arguments (named_procedure h) call at
  pub inside : place_of (read_of a) ≤ most_call_bytes

-- the call is refused with a number and an offset, or heard
abbrev pub OpensMount : List ℕ → Store → Table → List ℕ → Result (Heard MountArguments) Fault → Type 0
OpensMount call s t space (Err f) = (host : ℕ) → serve_mount call s t space host ≡ refuse_mount f space t
OpensMount call s t space (Ok x) = HearsMount call s t space x.header x.after.at x.arguments
