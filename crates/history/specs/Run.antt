-- Any list of requests: the store goes through `serve`, and the book is fed the calls and their replies.
use Rattle.std.specs.Prelude.{ℕ, ◌<◌, List, [], ◌∷◌, take, get_or}
use Rattle.kinds.specs.declared.object.Context.{Context}
use Rattle.spec.specs.Image.{Store}
use Rattle.spec.specs.Serve.{Outcome, serve}
use Rattle.history.specs.Book.{Ledger, note}

-- what the caller lends: the call's bytes, the clock and the verifier, and the reply space
pub record Request : Type 0 where
  pub call : List ℕ
  pub context : Context
  pub space : List ℕ

-- what every caller's types give: the call is bytes, and the clock's seconds are a number of 32 bits
pub record Lent (x : Request) : Type 0 where
  pub bytes : (k : ℕ) → get_or x.call k 0 < 256
  pub seconds : x.context.clock.seconds < 4294967296

abbrev pub AllLent : List Request → Type 0
AllLent [] = Unit {0}
AllLent (x ∷ xs) = Lent x × AllLent xs

-- the outcome of a request on a store, and the first `length` bytes of its reply space: the reply
abbrev pub outcome_of : Store → Request → Outcome
outcome_of s x = serve x.call s x.space x.context

unfoldable pub reply_to : Store → Request → List ℕ
reply_to s x = take (outcome_of s x).length (outcome_of s x).space

-- the store and the book between two requests
pub record State : Type 0 where
  pub store : Store
  pub ledger : Ledger

unfoldable pub step : State → Request → State
step w x =
    record {
      store = (outcome_of w.store x).store;
      ledger = note x.call (reply_to w.store x) w.ledger;
    }

unfoldable pub run : State → List Request → State
run w [] = w
run w (x ∷ xs) = run (step w x) xs
