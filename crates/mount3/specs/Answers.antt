-- What the entry answers, and what it leaves in the lent buffers.
use Rattle.std.specs.Prelude.{ℕ, ◌≡◌, List}
use Rattle.kinds.specs.declared.numbers.Answer.{Answer}
use Rattle.mount_spec.specs.Serve.{MountOutcome}

-- an answer, a reply space and a table are what a call gives
pub record ServesMount (o : MountOutcome) (r : Answer) (reply table : List ℕ) : Type 0 where
  pub number : r.number ≡ o.number
  pub length : r.length ≡ o.length
  pub offset : r.offset ≡ o.offset
  pub space : reply ≡ o.space
  pub leaves : table ≡ o.table
