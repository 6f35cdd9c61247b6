-- What holds of the mount table after any list of calls, and of the handle in an OK reply to MNT.
use Rattle.std.specs.Prelude.{ℕ, ◌<◌, ◌≡◌, ◌↔◌, List, true}
use Rattle.std.proofs.Math.Option.{some}
use Rattle.kinds.specs.Mount.{rows}
use Rattle.kinds.specs.Numbers.{DIRECTORY}
use Rattle.kinds.specs.declared.call.Part.{Part}
use Rattle.kinds.specs.declared.mount.MountArguments.TheVariants as Mount
use Rattle.kinds.specs.declared.object.Time.{Time}
use Rattle.spec.specs.Image.{Store, objects}
use Rattle.spec.specs.Handles.{handle_of}
use Rattle.spec.specs.Room.{is_directory}
use Rattle.spec.specs.Serve.{format}
use Rattle.history.specs.Book.{is_ok, found_handle}
use Rattle.history.specs.Run.{Request, AllLent, run}
use Rattle.history.specs.Statement.{In, HasLine, formatted_state}
use Rattle.mount_spec.specs.Table.{Table, Row, row_at, is_used_row, passes_table}
use Rattle.mount_history.specs.Told.{pair_of, asked_mount}
use Rattle.mount_history.specs.Run.{MountRequest, AllHosts, mount_outcome_of, mount_reply_to, MountState, mount_run, empty_state}

-- row r is used, and has this pair
pub record HoldsPair (t : Table) (v : Row) (r : ℕ) : Type 0 where
  pub below : r < rows
  pub used : is_used_row t r ≡ true
  pub pair : row_at t r ≡ v

-- ---- the table
pub record TableKept (w : MountState) : Type 0 where
  -- the table passes its check
  pub check : passes_table w.table ≡ true
  -- "the rows are exactly the pairs that the calls and replies tell"
  pub rows_told : (host : ℕ) (path : List ℕ) → ((r : ℕ) × HoldsPair w.table (pair_of host path) r) ↔ In (pair_of host path) w.pairs
  -- "no pair twice"
  pub once : (v : Row) (q r : ℕ) → HoldsPair w.table v q → HoldsPair w.table v r → q ≡ r

-- over any list of calls from an empty table
abbrev pub TablesKept : Type 0
TablesKept = (xs : List MountRequest) → AllHosts xs → TableKept (mount_run empty_state xs)

-- "a table that passes still passes after any call"
abbrev pub StillPasses : Type 0
StillPasses = (t : Table) (x : MountRequest) → x.host < 4294967296 → passes_table t ≡ true → passes_table (mount_outcome_of t x).table ≡ true

-- ---- the handle
-- the call is MNT, and is answered OK
pub record Mounts (t : Table) (x : MountRequest) : Type 0 where
  pub path : Part
  pub asks : asked_mount x.call ≡ some (Mount.Mnt path)
  pub ok : is_ok (mount_reply_to t x) ≡ true

-- "the handle in an OK reply to MNT is that of a live directory"
abbrev pub MountsDirectory : Type 0
MountsDirectory = (t : Table) (x : MountRequest) → Mounts t x
    → (o : ℕ) × (o < objects x.store) × (is_directory x.store o ≡ true) × (found_handle (mount_reply_to t x) ≡ handle_of x.store o)

-- "so in every state of demand 3's run it has a line of type directory"
abbrev pub MountsLine : Type 0
MountsLine =
    (buffer : Store) (σ p q r : ℕ) (clock : Time) → σ < 4294967296 → clock.seconds < 4294967296 → (format buffer σ p q r clock).number ≡ 0
    → (xs : List Request) → AllLent xs
    → (t : Table) (x : MountRequest) → x.store ≡ (run (formatted_state buffer σ p q r clock) xs).store → Mounts t x
    → HasLine (run (formatted_state buffer σ p q r clock) xs).ledger.book (found_handle (mount_reply_to t x)) DIRECTORY
