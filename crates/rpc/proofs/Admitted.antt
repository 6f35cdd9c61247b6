-- What is known of a call whose procedure runs. Assumes nothing.
use Rattle.std.proofs.Common.{◌≡◌, ℕ, refl, sym, ap, ◌∙◌}
use Rattle.kinds.specs.Reading.{Read, got, bad}
use Rattle.kinds.specs.declared.call.CallHeader.{CallHeader}
use Rattle.kinds.specs.declared.call.Header.{Header}
use Rattle.spec.specs.Checked.{Checked, refused, passed}
use Rattle.spec.specs.Rpc.{Program, judge}
use Rattle.rpc.specs.Meaning.{named_procedure}
use Rattle.rpc.specs.Admits.{runs, by_arguments, by_judging, admission}

-- its header is that of a call of RPC version 2 that the program has, and its arguments were read
pub record Ran {A : Type 0} (p : Program) (h : Header) (r : Read A) (k : CallHeader) (a : A) : Type 0 where
  pub header : h ≡ Header.Call k
  pub judged : judge p k ≡ passed tt
  pub next : ℕ
  pub read : r ≡ got a next

module _ {A : Type 0} (p : Program) (h : CallHeader) (k : CallHeader) (a : A) where
  ran_by_arguments : (r : Read A) → judge p h ≡ passed tt → by_arguments h r ≡ runs k a → Ran p (Header.Call h) r k a
  ran_by_arguments (got x next) d e = record { header = cc; judged = cc; next = next; read = cc }
  ran_by_arguments (bad place) d e = absurd cc

  ran_by_judging : (r : Read A) (j : Checked (Unit {0})) → judge p h ≡ j → by_judging p h r j ≡ runs k a → Ran p (Header.Call h) r k a
  ran_by_judging r (refused stat) d e = absurd cc
  ran_by_judging r (passed x) d e = ran_by_arguments r d e

pub ran : {A : Type 0} (p : Program) (h : Header) (r : Read A) (k : CallHeader) (a : A) → admission p h r ≡ runs k a → Ran p h r k a
ran p (Header.OtherVersion xid) r k a e = absurd cc
ran p (Header.Call h) r k a e = ran_by_judging p h k a r (judge p h) refl e

-- where they were read of the procedure that a header names, they were read of that which runs
pub ran_read : {A : Type 0} {p : Program} {h : Header} {r : Read A} {k : CallHeader} {a : A} (f : ℕ → Read A) → r ≡ f (named_procedure h)
    → (w : Ran p h r k a) → f k.procedure ≡ got a w.next
ran_read {A} {p} {h} {r} {k} {a} f e w = sym (ap (λ (x : Header). f (named_procedure x)) w.header) ∙ sym e ∙ w.read
