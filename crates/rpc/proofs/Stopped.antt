-- Whether a procedure runs, and how long the reply is where it does not. Assumes nothing.
use Prim.Native.Nat.{ℕ, ◌+◌, ◌≤◌}
use mathlib.Core.List.{List}
use mathlib.Core.Path.{◌≡◌, sym, ap, ◌∙◌}
use lib.Dec.{eqb, lit≤}
use lib.ListN.{length, length-append}
use Rattle.std.specs.Prelude.{Result, Ok, Err}
use Rattle.kinds.specs.declared.call.CallHeader.{CallHeader}
use Rattle.spec.specs.Checked.{refused, passed}
use Rattle.spec.specs.Rpc.{Program, PROG_MISMATCH, accepted, judge, mismatch}
use Rattle.laws.proofs.Count.{by_bool}
use Rattle.laws.proofs.Words.{words_length}
use Rattle.rpc.specs.Meaning.{judged_of}
use Rattle.rpc.specs.declared.outcome.AcceptStat.{AcceptStat}

-- the head of an accepted reply is 24 bytes
pub accepted_length : (xid stat : ℕ) (body : List ℕ) → length (accepted xid stat body) ≡ 24 + length body
unfolding accepted
accepted_length xid stat body = simp (length-append, words_length)

-- the reply to a call that does not run: at most the head and two words
pub stopped_short : (p : Program) (xid stat : ℕ) → length (accepted xid stat (mismatch p stat)) ≤ 32
unfolding mismatch
stopped_short p xid stat =
    rw (accepted_length xid stat (mismatch p stat))
    (by_bool (eqb stat PROG_MISMATCH) (λ t. rw (t, words_length) (lit≤ tt)) (λ t. rw t (lit≤ tt)))

-- ---- what a program that was judged tells of the program that is expected
module _ (p expected : Program) (h : CallHeader) (j : Result (Unit {0}) AcceptStat) where
  pub judged_runs : judged_of j ≡ judge p h → p ≡ expected → j ≡ Ok tt → judge expected h ≡ passed tt
  judged_runs e f g = sym (ap (λ (q : Program). judge q h) f) ∙ sym e ∙ ap judged_of g

  pub judged_stops : (stat : AcceptStat) → judged_of j ≡ judge p h → p ≡ expected → j ≡ Err stat → judge expected h ≡ refused stat.0
  judged_stops stat e f g = sym (ap (λ (q : Program). judge q h) f) ∙ sym e ∙ ap judged_of g
