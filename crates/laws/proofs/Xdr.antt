-- The laws of the XDR readers: what a reading that succeeded tells, and where one is refused. Assumes nothing.
use Prim.Native.Nat.{ℕ, ◌+◌, ◌≤◌, ◌<◌}
use mathlib.Core.Bool.{Bool, true, false}
use mathlib.Core.List.{List}
use mathlib.Core.Path.{◌≡◌, refl, sym, ap, ◌∙◌}
use native.Mathlib.Omega.{arith}
use borrow.Author.Tests.{leb-true, leb-false}
use lib.ListN.{length}
use lib.Dec.{leb}
use Rattle.kinds.specs.Reading.{Read, got, bad}
use Rattle.kinds.specs.declared.call.Part.{Part}
use Rattle.spec.specs.Bytes.{be_at, padding}
use Rattle.spec.specs.Xdr.{bind, ◌>>=◌, done, only_if, placed, check, number, word, bytes, opaque}
use Rattle.laws.proofs.Count.{by_bool}

-- a refusal is no value
pub never : {A : Type 0} (p : ℕ) (a : A) (q : ℕ) → bad p ≡ got a q → ⊥
never p a q e = let z : ◌≡◌ {A = ℕ} 0 1 = cc in omega arith

-- what was read is one value, and ends at one position
pub same_value : {A : Type 0} (a b : A) (p q : ℕ) → got a p ≡ got b q → a ≡ b
same_value a b p q e = cc

pub same_end : {A : Type 0} (a b : A) (p q : ℕ) → got a p ≡ got b q → p ≡ q
same_end a b p q e = cc

-- of a sequence: its first reader succeeded, and the rest
pub bind_got : {A B P : Type 0} (r : Read A) (k : A → ℕ → Read B) (b : B) (q : ℕ) → bind r k ≡ got b q
    → ((a : A) (p : ℕ) → r ≡ got a p → k a p ≡ got b q → P) → P
bind_got (got a p) k b q e f = f a p refl e
bind_got (bad p) k b q e f = absurd (never p b q e)

-- of a test: it holds
pub only_if_got : {A P : Type 0} (t : Bool) (p : ℕ) (r : Read A) (a : A) (q : ℕ) → only_if t p r ≡ got a q
    → (t ≡ true → r ≡ got a q → P) → P
only_if_got true p r a q e f = f refl e
only_if_got false p r a q e f = absurd (never p a q e)

-- of an item: what is in it succeeded
pub placed_got : {A : Type 0} (p : ℕ) (r : Read A) (a : A) (q : ℕ) → placed p r ≡ got a q → r ≡ got a q
placed_got p (got b at) a q e = e
placed_got p (bad at) a q e = absurd (never p a q e)

-- a refusal stands at one place; that of a test at its own, and that of an item at its start
pub same_place : {A : Type 0} (p q : ℕ) → ◌≡◌ {A = Read A} (bad p) (bad q) → p ≡ q
same_place p q e = cc

pub only_if_bad : {A : Type 0} (t : Bool) (p : ℕ) (a : A) (n q : ℕ) → only_if t p (got a n) ≡ bad q → p ≡ q
only_if_bad true p a n q e = absurd (never q a n (sym e))
only_if_bad false p a n q e = same_place p q e

pub placed_bad : {A : Type 0} (p : ℕ) (r : Read A) (q : ℕ) → placed p r ≡ bad q → p ≡ q
placed_bad p (got a n) q e = absurd (never q a n (sym e))
placed_bad p (bad n) q e = same_place p q e

-- a word is cut, and refused at its start, or it is there
pub word_cases : {P : Type 0} (s : List ℕ) (at : ℕ) → (length s < at + 4 → word s at ≡ bad at → P)
    → (at + 4 ≤ length s → word s at ≡ got (be_at s at 4) (at + 4) → P) → P
unfolding word number
word_cases s at cut there =
    by_bool (leb (at + 4) (length s)) (λ t. there (leb-true (at + 4) (length s) t) (rw t)) (λ t. cut (leb-false (at + 4) (length s) t) (rw t))

pub word_got : (s : List ℕ) (at n q : ℕ) → word s at ≡ got n q → (at + 4 ≤ length s) × (n ≡ be_at s at 4) × (q ≡ at + 4)
word_got s at n q e =
    word_cases s at (λ l w. absurd (never at n q (sym w ∙ e))) (λ l w. (l, same_value _ _ _ _ (sym e ∙ w), same_end _ _ _ _ (sym e ∙ w)))

pub word_bad : (s : List ℕ) (at q : ℕ) → word s at ≡ bad q → length s < at + 4
word_bad s at q e = word_cases s at (λ l w. l) (λ l w. absurd (never q (be_at s at 4) (at + 4) (sym e ∙ w)))

-- a part that was read: its length, which is allowed, stands before it, and its padding behind it, within the call
pub record OpaqueRead (most : ℕ) (s : List ℕ) (at : ℕ) (p : Part) (q : ℕ) : Type 0 where
  pub n : ℕ
  pub start : ℕ
  pub length_read_lem : word s at ≡ got n start
  pub allowed : leb n most ≡ true
  pub whole : p ≡ record { start = start; length = n }
  pub ends : q ≡ start + n + padding n
  pub fits : q ≤ length s

pub opaque_read : (most : ℕ) (s : List ℕ) (at : ℕ) (p : Part) (q : ℕ) → opaque most s at ≡ got p q → OpaqueRead most s at p q
unfolding opaque bytes
opaque_read most s at p q e =
    bind_got (word s at) _ p q (placed_got at _ p q e) (λ n a₁ e₁ f₁.
    bind_got (check (leb n most) s a₁) _ p q f₁ (λ u a₂ e₂ f₂.
    bind_got (bytes n s a₂) _ p q f₂ (λ part a₃ e₃ f₃.
    bind_got (bytes (padding n) s a₃) _ p q f₃ (λ v a₄ e₄ f₄.
    only_if_got (leb n most) _ _ _ _ e₂ (λ small here.
    only_if_got (leb (a₂ + n) (length s)) _ _ _ _ e₃ (λ _ made.
    only_if_got (leb (a₃ + padding n) (length s)) _ _ _ _ e₄ (λ inside behind.
    let stays : a₁ ≡ a₂ = same_end _ _ _ _ here in
    let body : a₂ + n ≡ a₃ = same_end _ _ _ _ made in
    let pad : a₃ + padding n ≡ a₄ = same_end _ _ _ _ behind in
    let last : a₄ ≡ q = same_end _ _ _ _ f₄ in
    record {
      n = n;
      start = a₁;
      length_read_lem = e₁;
      allowed = small;
      whole = sym (same_value _ _ _ _ f₄) ∙ sym (same_value _ _ _ _ made) ∙ ap (λ (a : ℕ). record { start = a; length = n }) (sym stays);
      ends = sym last ∙ sym pad ∙ ap (λ (a : ℕ). a + padding n) (sym body ∙ ap (λ (a : ℕ). a + n) (sym stays));
      fits = omega (arith, leb-true (a₃ + padding n) (length s) inside);
    })))))))

-- one that was not read is refused at its length
pub opaque_bad : (most : ℕ) (s : List ℕ) (at q : ℕ) → opaque most s at ≡ bad q → at ≡ q
unfolding opaque
opaque_bad most s at q e =
    placed_bad at ((word >>= λ n. check (leb n most) >>= λ _. bytes n >>= λ part. bytes (padding n) >>= λ _. done part) s at) q e

-- it lies within the call, and is no longer than was allowed
pub opaque_within : (most : ℕ) (s : List ℕ) (at : ℕ) (p : Part) (q : ℕ) → opaque most s at ≡ got p q
    → (p.start + p.length ≤ length s) × (p.length ≤ most)
opaque_within most s at p q e =
    let o = opaque_read most s at p q e in (
      omega (arith, ap (λ (r : Part). r.start + r.length) o.whole, o.ends, o.fits),
      omega (arith, ap (λ (r : Part). r.length) o.whole, leb-true o.n most o.allowed),
    )
