-- Any list of calls of MOUNT: the table goes through `serve_mount`, and what is told through `tell`. The store may be another in each call.
use Rattle.std.specs.Prelude.{ℕ, ◌<◌, List, [], ◌∷◌, take}
use Rattle.kinds.specs.Mount.{table_length}
use Rattle.spec.specs.Bytes.{zeros}
use Rattle.spec.specs.Image.{Store}
use Rattle.mount_spec.specs.Serve.{MountOutcome, serve_mount}
use Rattle.mount_spec.specs.Table.{Table}
use Rattle.mount_history.specs.Told.{Pairs, tell}

-- what the caller lends beside the table: the call's bytes, the store, the reply space and the host
pub record MountRequest : Type 0 where
  pub call : List ℕ
  pub store : Store
  pub space : List ℕ
  pub host : ℕ

-- what every caller's types give: the host is a number of 32 bits
abbrev pub AllHosts : List MountRequest → Type 0
AllHosts [] = Unit {0}
AllHosts (x ∷ xs) = (x.host < 4294967296) × AllHosts xs

-- the outcome of a call on a table, and the first `length` bytes of its reply space: the reply
abbrev pub mount_outcome_of : Table → MountRequest → MountOutcome
mount_outcome_of t x = serve_mount x.call x.store t x.space x.host

unfoldable pub mount_reply_to : Table → MountRequest → List ℕ
mount_reply_to t x = take (mount_outcome_of t x).length (mount_outcome_of t x).space

-- the table, and what is told, between two calls
pub record MountState : Type 0 where
  pub table : Table
  pub pairs : Pairs

unfoldable pub mount_step : MountState → MountRequest → MountState
mount_step w x =
    record {
      table = (mount_outcome_of w.table x).table;
      pairs = tell x.host x.call (mount_reply_to w.table x) w.pairs;
    }

unfoldable pub mount_run : MountState → List MountRequest → MountState
mount_run w [] = w
mount_run w (x ∷ xs) = mount_run (mount_step w x) xs

-- "An empty table is 33,024 zero bytes."
abbrev pub empty_state : MountState
empty_state = record { table = zeros table_length; pairs = [] }
