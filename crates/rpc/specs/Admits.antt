-- What becomes of a call that passed its tests, before its procedure runs.
use Rattle.std.specs.Prelude.{ℕ, List, [], ◌≡◌, Result, Ok, Err}
use Rattle.std.proofs.Math.ListN as ListN
use Rattle.kinds.specs.Reading.{Read, got, bad}
use Rattle.kinds.specs.declared.call.CallHeader.{CallHeader}
use Rattle.kinds.specs.declared.call.Header.{Header}
use Rattle.kinds.specs.declared.numbers.Answer.{Answer}
use Rattle.spec.specs.Bytes.{overlay}
use Rattle.spec.specs.Checked.{Checked, refused, passed}
use Rattle.spec.specs.Rpc.{Program, GARBAGE_ARGS, denied, accepted, judge, mismatch}

-- its procedure runs with its arguments, or a reply is sent with an offset beside it
pub data Admission (A : Type 0) : Type 0 where
  runs : CallHeader → A → Admission A
  replies : List ℕ → ℕ → Admission A

-- "arguments not exactly the XDR type, GARBAGE_ARGS", and the offset at which they break
abbrev pub by_arguments : {A : Type 0} → CallHeader → Read A → Admission A
by_arguments h (got a next) = runs h a
by_arguments h (bad p) = replies (accepted h.xid GARBAGE_ARGS []) p

abbrev pub by_judging : {A : Type 0} → Program → CallHeader → Read A → Checked (Unit {0}) → Admission A
by_judging p h r (refused stat) = replies (accepted h.xid stat (mismatch p stat)) 0
by_judging p h r (passed _) = by_arguments h r

-- by a call's header and what was read of its arguments: the RPC version, the program, its version and the procedure, and then the arguments
abbrev pub admission : {A : Type 0} → Program → Header → Read A → Admission A
admission p (Header.OtherVersion xid) r = replies (denied xid) 0
admission p (Header.Call h) r = by_judging p h r (judge p h)

-- the answer is 0 with the length of the reply that is sent and the offset beside it; the reply was written at the start of the reply space, whose
-- other bytes stay
pub record Replied {A : Type 0} (m : Admission A) (r : Answer) (before after : List ℕ) : Type 0 where
  pub reply : List ℕ
  pub sends : m ≡ replies reply r.offset
  pub number : r.number ≡ 0
  pub length : r.length ≡ ListN.length reply
  pub space : after ≡ overlay before 0 reply

-- a header and arguments with which the procedure runs, and the reply space as it was; or the answer to a call whose reply was written
abbrev pub Admits : {A : Type 0} → Admission A → Result (CallHeader × A) Answer → List ℕ → List ℕ → Type 0
Admits m (Ok x) before after = (m ≡ runs x.0 x.1) × (after ≡ before)
Admits m (Err r) before after = Replied m r before after
