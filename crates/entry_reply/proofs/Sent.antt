-- From what was written to what serve sends. Assumes nothing.
use Prim.Native.Nat.{ℕ, ◌≤◌}
use mathlib.Core.Bool.{◌||◌}
use mathlib.Core.List.{List}
use mathlib.Core.Path.{◌≡◌, refl}
use native.Mathlib.Omega.{arith}
use lib.Dec.{eqb, ltb}
use borrow.Author.Tests.{ltb-false}
use Rattle.kinds.specs.Reading.{Read, got, bad}
use Rattle.kinds.specs.declared.call.Arguments.{Arguments}
use Rattle.kinds.specs.declared.call.CallHeader.{CallHeader}
use Rattle.kinds.specs.declared.call.Header.{Header}
use Rattle.kinds.specs.declared.numbers.Answer.{Answer}
use Rattle.kinds.specs.declared.object.Context.{Context}
use Rattle.spec.specs.Arguments.{arguments}
use Rattle.spec.specs.Checked.{Checked, refused, passed}
use Rattle.spec.specs.Image.{Store}
use Rattle.spec.specs.Replies.{result_bytes}
use Rattle.spec.specs.Results.{Done}
use Rattle.spec.specs.Rpc.{nfs, accepted, judge, PROG_UNAVAIL, PROG_MISMATCH, PROC_UNAVAIL}
use Rattle.spec.specs.Procedures.{act}
use Rattle.spec.specs.Serve.{Sent, finish, perform, answer, respond}
use Rattle.laws.proofs.Count.{by_bool}
use Rattle.laws.proofs.Passed.{refused_passed}
use Rattle.results.specs.Does.{Does}
use Rattle.results.specs.Meaning.{result_of}
use Rattle.results.specs.declared.Reply.{Reply}
use Rattle.xdr.specs.Wrote.{Wrote}
use Rattle.rpc.specs.Admits.{Admission, runs, replies, by_arguments, by_judging, admission, Replied}
use Rattle.rpc.specs.Meaning.{named_procedure}
use Rattle.entry_reply.specs.Sends.{Sends}

-- a procedure's reply, from its reply value
pub sends_done : {n m : ℕ} {r r₁ : List ℕ} (h : CallHeader) (d : Done) (t : Store) (v : Reply) (x : Answer) → Does d v t
    → Wrote m r r₁ 0 n (accepted h.xid 0 (result_bytes h.procedure (result_of t v))) → (x.number ≡ 0) × (x.length ≡ n) × (x.offset ≡ 0)
    → Sends (finish h d) x r r₁ t
sends_done {n} {m} {r} {r₁} h d t v x e w i =
    let u = rw e.result at w in
    record { number = i.0; length = omega arith; offset = i.2; space = u.bytes; store = e.store }

-- ---- what is sent, by what becomes of the call
module _ (s : Store) (c : Context) (call : List ℕ) where
  abbrev sent : Admission Arguments → Sent
  sent (runs h a) = finish h (act s c call a)
  sent (replies reply offset) = record { reply = reply; offset = offset; store = s }

  performed : (h : CallHeader) (r : Read Arguments) → perform s c call h r ≡ sent (by_arguments h r)
  performed h (got a next) = refl
  performed h (bad place) = refl

  answered : (h : CallHeader) (at : ℕ) (j : Checked (Unit {0}))
      → answer s c call h at j ≡ sent (by_judging nfs h (arguments h.procedure call at) j)
  answered h at (refused stat) = refl
  answered h at (passed x) = performed h (arguments h.procedure call at)

  responded : (h : Header) (at : ℕ) → respond s c call h at ≡ sent (admission nfs h (arguments (named_procedure h) call at))
  responded (Header.OtherVersion xid) at = refl
  responded (Header.Call h) at = answered h at (judge nfs h)

  module _ (h : Header) (at : ℕ) (r : Read Arguments) (x : Answer) (before after : List ℕ) (e : r ≡ arguments (named_procedure h) call at) where
    -- a reply that leaves the store
    pub sends_replied : Replied (admission nfs h r) x before after → Sends (respond s c call h at) x before after s
    sends_replied w = rw (responded h at, ← e, w.sends) (record { number = w.number; length = w.length; offset = refl; space = w.space; store = refl })

    pub sends_run : (k : CallHeader) (a : Arguments) (left : Store) → admission nfs h r ≡ runs k a
        → Sends (finish k (act s c call a)) x before after left → Sends (respond s c call h at) x before after left
    sends_run k a left f w = rw (responded h at, ← e, f) w

-- a procedure that runs is at most the last
pub runs_few : (h : CallHeader) → judge nfs h ≡ passed tt → h.procedure ≤ nfs.last
unfolding judge
runs_few h e =
    by_bool (eqb h.program nfs.number)
    (λ a. by_bool (ltb h.version nfs.lowest || ltb nfs.highest h.version)
    (λ b. absurd (refused_passed PROG_MISMATCH tt (rw (a, b) at e)))
    (λ b. by_bool (ltb nfs.last h.procedure) (λ d. absurd (refused_passed PROC_UNAVAIL tt (rw (a, b, d) at e)))
    (λ d. ltb-false nfs.last h.procedure d)))
    (λ a. absurd (refused_passed PROG_UNAVAIL tt (rw a at e)))
