-- What holds of each way to build a reader holds of the readers of numbers, times and attributes. Assumes nothing.
use Rattle.std.specs.Prelude.{Option, Some, None}
use Prim.Native.Nat.{ℕ}
use mathlib.Core.Bool.{Bool, true, false, cond}
use lib.Dec.{leb, eqb}
use Rattle.kinds.specs.declared.object.Time.{Time}
use Rattle.kinds.specs.declared.call.SetTime.{SetTime}
use Rattle.kinds.specs.declared.call.SetTime.TheVariants as SetTime
use Rattle.kinds.specs.declared.call.Settable.{Settable}
use Rattle.kinds.specs.declared.call.How.{How}
use Rattle.kinds.specs.declared.call.How.TheVariants as How
use Rattle.spec.specs.Arguments.{time, set_number, set_size, set_time, settable, guard, how}
use Rattle.spec.specs.Xdr.{Reader, ◌>>=◌, done, check, item, number, word, long, choice, flag, optional}

-- P of a reader that reads nothing, of one reader after the other, of an item, of a number and of a test
pub record Built (P : (A : Type 0) → Reader A → Type 0) : Type 1 where
  pub of_done : {A : Type 0} (a : A) → P A (done a)
  pub of_then : {A B : Type 0} {p : Reader A} {k : A → Reader B} → P A p → ((a : A) → P B (k a)) → P B (p >>= k)
  pub of_item : {A : Type 0} {p : Reader A} → P A p → P A (item p)
  pub of_number : (w : ℕ) → P ℕ (number w)
  pub of_check : (b : Bool) → P (Unit {0}) (check b)

module _ (P : (A : Type 0) → Reader A → Type 0) (b : Built P) where
  pub of_cond : {A : Type 0} (t : Bool) {p q : Reader A} → P A p → P A q → P A (cond t p q)
  of_cond true f g = f
  of_cond false f g = g

  pub of_word : P ℕ word
  unfolding word
  of_word = b.of_number 4

  pub of_long : P ℕ long
  unfolding long
  of_long = b.of_number 8

  pub of_choice : (top : ℕ) → P ℕ (choice top)
  unfolding choice
  of_choice top = b.of_item (b.of_then of_word (λ n. b.of_then (b.of_check (leb n top)) (λ _. b.of_done n)))

  of_flag : P Bool flag
  unfolding flag
  of_flag = b.of_then (of_choice 1) (λ n. b.of_done (eqb n 1))

  of_optional : {A B : Type 0} {value : Reader A} (present : A → B) (absent : B) → P A value → P B (optional value present absent)
  of_optional present absent f = b.of_then of_flag (λ given. of_cond given (b.of_then f (λ a. b.of_done (present a))) (b.of_done absent))

  of_time : P Time time
  unfolding time
  of_time = b.of_then of_word (λ seconds. b.of_then of_word (λ nanoseconds. b.of_done _))

  of_number_set : P (Option ℕ) set_number
  unfolding set_number
  of_number_set = of_optional Some None of_word

  of_size_set : P (Option ℕ) set_size
  unfolding set_size
  of_size_set = of_optional Some None of_long

  of_time_set : P SetTime set_time
  unfolding set_time
  of_time_set =
      b.of_then (of_choice 2) (λ manner.
      of_cond (eqb manner 0) (b.of_done SetTime.Keep)
      (of_cond (eqb manner 1) (b.of_done SetTime.ToServer) (b.of_then of_time (λ t. b.of_done (SetTime.ToClient t)))))

  pub of_settable : P Settable settable
  unfolding settable
  of_settable =
      b.of_then of_number_set (λ mode.
      b.of_then of_number_set (λ uid.
      b.of_then of_number_set (λ gid.
      b.of_then of_size_set (λ size. b.of_then of_time_set (λ atime. b.of_then of_time_set (λ mtime. b.of_done _))))))

  pub of_guard : P (Option Time) guard
  unfolding guard
  of_guard = of_optional Some None of_time

  pub of_how : P How how
  unfolding how
  of_how =
      b.of_then (of_choice 2) (λ mode.
      of_cond (eqb mode 2) (b.of_then of_long (λ verifier. b.of_done (How.Exclusive verifier))) (b.of_then of_settable (λ a. b.of_done _)))
