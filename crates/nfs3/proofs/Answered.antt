-- From what was found to the answer of each entry. Assumes nothing.
use mathlib.Core.Path.{◌≡◌, refl, sym, ap}
use mathlib.Core.Bool.{Bool, true, false, cond}
use mathlib.Core.List.{List}
use Prim.Native.Nat.{ℕ}
use Rattle.spec.specs.Image.{Store}
use Rattle.spec.specs.Check.{passes}
use Rattle.kinds.specs.declared.numbers.Answer.{Answer}
use Rattle.kinds.specs.declared.numbers.Fault.{Fault}
use Rattle.spec.specs.Serve.{Outcome, Written, Sent, refuse, send, check}
use Rattle.fsck.specs.Format.{Leaves}
use Rattle.entry_reply.specs.Sends.{Sends}
use Rattle.nfs3.specs.Answers.{answer_of, Writes, Serves}

-- ---- the check
pub answer_bad : (s : Store) → passes s ≡ false → answer_of 1 ≡ answer_of (check s)
unfolding check
answer_bad s e = ap (λ (x : Bool). answer_of (cond x 0 1)) (sym e)

pub answer_good : (s : Store) → passes s ≡ true → answer_of 0 ≡ answer_of (check s)
unfolding check
answer_good s e = ap (λ (x : Bool). answer_of (cond x 0 1)) (sym e)

-- ---- an entry that writes a whole store
pub writes_by : (w : Written) (number : ℕ) (s : Store) → Leaves w number s → Writes w (answer_of number) s
writes_by w number s l = record { answers = ap answer_of l.answers; leaves = l.leaves }

-- ---- a call
-- a call that is refused changes nothing
pub serves_refused : (o : Outcome) (f : Fault) (space : List ℕ) (s : Store) → o ≡ refuse f space s
    → Serves o (record { number = f.number; length = 0; offset = f.offset }) space s
serves_refused o f space s e = rw e (record { number = refl; length = refl; offset = refl; space = refl; leaves = refl })

-- a call that is answered
pub serves_sent : (o : Outcome) (t : Sent) (r : Answer) (space after left : List ℕ) → o ≡ send space t → Sends t r space after left
    → Serves o r after left
serves_sent o t r space after left e w =
    rw e (record { number = w.number; length = w.length; offset = w.offset; space = w.space; leaves = w.store })
