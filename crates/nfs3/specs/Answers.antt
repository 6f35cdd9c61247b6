-- What each entry answers, and what it leaves in the lent buffers.
use Rattle.std.specs.Prelude.{ℕ, ◌≡◌, List}
use Rattle.kinds.specs.declared.object.Context.{Context}
use Rattle.kinds.specs.declared.object.Time.{Time}
use Rattle.spec.specs.Serve.{Outcome, Written}
use Rattle.kinds.specs.declared.numbers.Answer.{Answer}

-- the answers of the check, of format and of the converter: "both of length 0", with offset 0
abbrev pub answer_of : ℕ → Answer
answer_of number = record { number = number; length = 0; offset = 0 }

-- a clock of two numbers
abbrev pub clock_of : ℕ → ℕ → Time
clock_of seconds nanoseconds = record { seconds = seconds; nanoseconds = nanoseconds }

-- an answer and a buffer are what format or the converter gives
pub record Writes (w : Written) (r : Answer) (store : List ℕ) : Type 0 where
  pub answers : r ≡ answer_of w.number
  pub leaves : store ≡ w.store

-- a clock of two numbers, and a verifier
abbrev pub context_of : ℕ → ℕ → ℕ → Context
context_of seconds nanoseconds verifier = record { clock = clock_of seconds nanoseconds; verifier = verifier }

-- an answer, a reply space and a store are what a call gives
pub record Serves (o : Outcome) (r : Answer) (reply store : List ℕ) : Type 0 where
  pub number : r.number ≡ o.number
  pub length : r.length ≡ o.length
  pub offset : r.offset ≡ o.offset
  pub space : reply ≡ o.space
  pub leaves : store ≡ o.store
