-- From what the contract of a procedure gives to what its call does. Assumes nothing.
use Prim.Native.Nat.{ℕ}
use mathlib.Core.List.{List}
use mathlib.Core.Path.{◌≡◌, sym, subst}
use Rattle.kinds.specs.declared.object.Context.{Context}
use Rattle.kinds.specs.declared.call.Arguments.{Arguments}
use Rattle.spec.specs.Image.{Store}
use Rattle.spec.specs.Procedures.{act}
use Rattle.results.specs.declared.Reply.{Reply}
use Rattle.results.specs.Does.{Does}
use Rattle.results.specs.Meaning.{result_of}
use Rattle.results.specs.Writable.{Writable}

module _ (s : Store) (c : Context) (call : List ℕ) (a : Arguments) where
  -- by the variant of the arguments
  pub told : (b : Arguments) (r : Reply) (t : Store) → a ≡ b → Does (act s c call b) r t → Does (act s c call a) r t
  told b r t e h = subst (λ (x : Arguments). Does (act s c call x) r t) (sym e) h

  -- a procedure that only reads
  pub reading : (b : Arguments) (r : Reply) → a ≡ b → (act s c call b).store ≡ s → (result_of s r ≡ (act s c call b).result) × Writable s r
      → Does (act s c call a) r s
  reading b r e same k = told b r s e (record { result = k.0; store = sym same; writable = k.1 })
