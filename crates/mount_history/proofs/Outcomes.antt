-- The outcomes of MOUNT's entry by cases: a refusal, an outcome of RPC, or what a procedure made. Assumes nothing.
use mathlib.Core.Path.{◌≡◌, refl}
use mathlib.Core.Bool.{Bool, true, false, not}
use mathlib.Core.Option.{Option, some, none}
use mathlib.Core.List.{List}
use Prim.Native.Nat.{ℕ}
use lib.Dec.{ltb}
use lib.ListN.{length}
use borrow.Author.Tests.{not-false}
use Rattle.kinds.specs.Mount.{least_mount_reply_bytes}
use Rattle.kinds.specs.Numbers.{most_call_bytes}
use Rattle.kinds.specs.Reading.{Read, got, bad}
use Rattle.kinds.specs.declared.numbers.Fault.{Fault}
use Rattle.kinds.specs.declared.call.CallHeader.{CallHeader}
use Rattle.kinds.specs.declared.call.Header.{Header}
use Rattle.kinds.specs.declared.call.Header.TheVariants as Header
use Rattle.kinds.specs.declared.mount.MountArguments.{MountArguments}
use Rattle.spec.specs.Check.{passes}
use Rattle.spec.specs.Checked.{Checked, refused, passed, bind, refuse_if}
use Rattle.spec.specs.Header.{header, fault, header_fault}
use Rattle.spec.specs.Image.{Store}
use Rattle.spec.specs.Rpc.{judge}
use Rattle.mount_spec.specs.Arguments.{mount_arguments}
use Rattle.mount_spec.specs.Procedures.{act_mount}
use Rattle.mount_spec.specs.Serve.{mount3, MountOutcome, refuse_mount, send_mount, finish_mount, perform_mount, answer_mount, complete_mount, mount_outcome, serve_mount}
use Rattle.mount_spec.specs.Table.{Table, passes_table}
use Rattle.mount_history.specs.Told.{mount_got, mount_judged, mount_headed, asked_mount}
use Rattle.mount_laws.proofs.Paths.{PathWithin, arguments_within}

-- a test with its refusal, and the rest
test_cases : {B : Type 0} (Q : Checked B → Type 0) (t : Bool) (n : ℕ) (k : Checked B) → Q (refused n) → (t ≡ false → Q k) → Q (bind (refuse_if t n) (λ _. k))
test_cases Q true n k a b = a
test_cases Q false n k a b = b refl

-- what holds of each outcome, and of what the call asks, holds of the entry's
module _ (P : MountOutcome → Option MountArguments → Type 0) (call : List ℕ) (s : Store) (t : Table) (space : List ℕ) (host : ℕ)
    (refusal : (f : Fault) (a : Option MountArguments) → P (refuse_mount f space t) a)
    (rpc : (reply : List ℕ) (offset : ℕ) → P (send_mount space (record { reply = reply; offset = offset; table = t })) none) where
  -- of a procedure's
  Ran : Type 0
  Ran = (h : CallHeader) (a : MountArguments) → PathWithin (length call) a → P (send_mount space (finish_mount s h (act_mount s t host call a))) (some a)

  performed : Ran → (h : CallHeader) (r : Read MountArguments) → ((a : MountArguments) (next : ℕ) → r ≡ got a next → PathWithin (length call) a)
      → P (send_mount space (perform_mount s t host call h r)) (mount_got r)
  unfolding Ran
  performed ran h (bad p) f = rpc _ _
  performed ran h (got a next) f = ran h a (f a next refl)

  judged : Ran → (h : CallHeader) (at : ℕ) (c : Checked (Unit {0}))
      → P (send_mount space (answer_mount s t host call h at c)) (mount_judged call h at c)
  judged ran h at (refused stat) = rpc _ _
  judged ran h at (passed _) = performed ran h (mount_arguments h.procedure call at) (arguments_within call h.procedure at)

  headed : Ran → (r : Read Header) → P (complete_mount space s t host call r) (mount_headed call r)
  headed ran (bad p) = refusal (header_fault call p) _
  headed ran (got (Header.OtherVersion xid) at) = rpc _ _
  headed ran (got (Header.Call h) at) = judged ran h at (judge mount3 h)

  pub outcomes : (passes s ≡ true → passes_table t ≡ true → (h : CallHeader) (a : MountArguments) → PathWithin (length call) a
      → P (send_mount space (finish_mount s h (act_mount s t host call a))) (some a))
      → P (serve_mount call s t space host) (asked_mount call)
  unfolding serve_mount asked_mount Ran
  outcomes ran =
      let Q : Checked MountOutcome → Type 0 = λ c. P (mount_outcome space t c) (mount_headed call (header call 0)) in
      let no : (n : ℕ) → Q (refused n) = λ n. refusal (fault n 0) (mount_headed call (header call 0)) in
      test_cases Q (ltb (length space) least_mount_reply_bytes) 2 _ (no 2) (λ _.
      test_cases Q (ltb most_call_bytes (length call)) 4 _ (no 4) (λ _.
      test_cases Q (not (passes s)) 1 _ (no 1) (λ e.
      test_cases Q (not (passes_table t)) 12 _ (no 12) (λ f.
      headed (ran (not-false (passes s) e) (not-false (passes_table t) f)) (header call 0)))))
