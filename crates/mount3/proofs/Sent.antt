-- From what was written to what serveMount sends. Assumes nothing.
use Prim.Native.Nat.{ℕ}
use mathlib.Core.List.{List}
use mathlib.Core.Path.{◌≡◌, refl}
use native.Mathlib.Omega.{arith}
use Rattle.kinds.specs.Reading.{Read, got, bad}
use Rattle.kinds.specs.declared.call.CallHeader.{CallHeader}
use Rattle.kinds.specs.declared.call.Header.{Header}
use Rattle.kinds.specs.declared.mount.MountArguments.{MountArguments}
use Rattle.kinds.specs.declared.numbers.Answer.{Answer}
use Rattle.spec.specs.Checked.{Checked, refused, passed}
use Rattle.spec.specs.Image.{Store}
use Rattle.spec.specs.Rpc.{accepted, judge}
use Rattle.xdr.specs.Wrote.{Wrote}
use Rattle.rpc.specs.Admits.{Admission, runs, replies, by_arguments, by_judging, admission, Replied}
use Rattle.rpc.specs.Meaning.{named_procedure}
use Rattle.mount_spec.specs.Arguments.{mount_arguments}
use Rattle.mount_spec.specs.Procedures.{MountDone, act_mount}
use Rattle.mount_spec.specs.Replies.{mount_result_bytes}
use Rattle.mount_spec.specs.Serve.{MountSent, mount3, finish_mount, perform_mount, answer_mount, respond_mount}
use Rattle.mount_spec.specs.Table.{Table}
use Rattle.mount_results.specs.Meaning.{result_of}
use Rattle.mount_results.specs.declared.MountReply.{MountReply}
use Rattle.mount_act.specs.Acts.{Acts}
use Rattle.mount3.specs.Sends.{SendsMount}

-- a procedure's reply, from its reply value
pub sends_done : {n m : ℕ} {r r₁ : List ℕ} (s : Store) (h : CallHeader) (d : MountDone) (t : Table) (v : MountReply) (x : Answer) → Acts d v t
    → Wrote m r r₁ 0 n (accepted h.xid 0 (mount_result_bytes s t (result_of v))) → (x.number ≡ 0) × (x.length ≡ n) × (x.offset ≡ 0)
    → SendsMount (finish_mount s h d) x r r₁ t
sends_done s h d t v x e w i =
    let u = rw (e.answers, e.leaves) at w in
    record { number = i.0; length = omega arith; offset = i.2; space = u.bytes; table = e.leaves }

-- ---- what is sent, by what becomes of the call
module _ (s : Store) (t : Table) (host : ℕ) (call : List ℕ) where
  abbrev sent : Admission MountArguments → MountSent
  sent (runs h a) = finish_mount s h (act_mount s t host call a)
  sent (replies reply offset) = record { reply = reply; offset = offset; table = t }

  performed : (h : CallHeader) (r : Read MountArguments) → perform_mount s t host call h r ≡ sent (by_arguments h r)
  performed h (got a next) = refl
  performed h (bad place) = refl

  answered : (h : CallHeader) (at : ℕ) (j : Checked (Unit {0}))
      → answer_mount s t host call h at j ≡ sent (by_judging mount3 h (mount_arguments h.procedure call at) j)
  answered h at (refused stat) = refl
  answered h at (passed x) = performed h (mount_arguments h.procedure call at)

  responded : (h : Header) (at : ℕ) → respond_mount s t host call h at ≡ sent (admission mount3 h (mount_arguments (named_procedure h) call at))
  responded (Header.OtherVersion xid) at = refl
  responded (Header.Call h) at = answered h at (judge mount3 h)

  module _ (h : Header) (at : ℕ) (r : Read MountArguments) (x : Answer) (before after : List ℕ)
      (e : r ≡ mount_arguments (named_procedure h) call at) where
    -- a reply that leaves the table
    pub sends_replied : Replied (admission mount3 h r) x before after → SendsMount (respond_mount s t host call h at) x before after t
    sends_replied w = rw (responded h at, ← e, w.sends) (record { number = w.number; length = w.length; offset = refl; space = w.space; table = refl })

    pub sends_run : (k : CallHeader) (a : MountArguments) (left : Table) → admission mount3 h r ≡ runs k a
        → SendsMount (finish_mount s k (act_mount s t host call a)) x before after left → SendsMount (respond_mount s t host call h at) x before after left
    sends_run k a left f w = rw (responded h at, ← e, f) w
