-- What a call of bytes asks fits its places. Assumes nothing.
use mathlib.Core.Path.{◌≡◌, refl, ap, ◌∙◌}
use mathlib.Core.Option.{some, none}
use mathlib.Core.List.{List}
use Prim.Native.Nat.{ℕ}
use native.Mathlib.Omega.{arith}
use Rattle.kinds.specs.Reading.{Read, got, bad}
use Rattle.kinds.specs.declared.call.CallHeader.{CallHeader}
use Rattle.kinds.specs.declared.call.Header.{Header}
use Rattle.kinds.specs.declared.call.Header.TheVariants as Header
use Rattle.kinds.specs.declared.call.Arguments.{Arguments}
use Rattle.spec.specs.Arguments.{arguments}
use Rattle.spec.specs.Checked.{Checked, refused, passed}
use Rattle.spec.specs.Header.{header}
use Rattle.spec.specs.Rpc.{nfs, judge}
use Rattle.laws.proofs.ArgumentRange.{FitsArguments, arguments_fit}
use Rattle.laws.proofs.Range.{Below}
use Rattle.history.specs.Book.{arguments_got, judged_arguments, headed_arguments, asked}

pub asked_fits : (call : List ℕ) → Below 256 call → (a : Arguments) → asked call ≡ some a → FitsArguments a
unfolding asked
asked_fits call b a e = headed (header call 0) e
  where
    none_some : {B : Type 0} → none ≡ some a → B
    none_some e = let z : ◌≡◌ {A = ℕ} 0 1 = cc in absurd (omega arith)

    read : (p at : ℕ) (r : Read Arguments) → arguments p call at ≡ r → arguments_got r ≡ some a → FitsArguments a
    read p at (bad q) f e = none_some e
    read p at (got x q) f e = let z : x ≡ a = cc in arguments_fit p call b at a q (f ∙ ap (λ (y : Arguments). got y q) z)

    judged : (h : CallHeader) (at : ℕ) (j : Checked (Unit {0})) → judged_arguments call h at j ≡ some a → FitsArguments a
    judged h at (refused stat) e = none_some e
    judged h at (passed _) e = read h.procedure at (arguments h.procedure call at) refl e

    headed : (r : Read Header) → headed_arguments call r ≡ some a → FitsArguments a
    headed (bad p) e = none_some e
    headed (got (Header.OtherVersion xid) at) e = none_some e
    headed (got (Header.Call h) at) e = judged h at (judge nfs h) e
