-- Checks in order: the first that fails decides the status.
use Rattle.std.specs.Prelude.{ℕ, Bool, true, false}
use Rattle.std.proofs.Math.Option.{Option, some, none}

-- a status, or what passed the checks
pub data Checked (A : Type 0) : Type 0 where
  refused : ℕ → Checked A
  passed : A → Checked A

abbrev pub bind : {A B : Type 0} → Checked A → (A → Checked B) → Checked B
bind (refused status) k = refused status
bind (passed a) k = k a

infixl 10 ◌>>=◌
abbrev pub ◌>>=◌ : {A B : Type 0} → Checked A → (A → Checked B) → Checked B
◌>>=◌ c k = bind c k

infixl 10 ◌>>◌
abbrev pub ◌>>◌ : {A B : Type 0} → Checked A → Checked B → Checked B
◌>>◌ c k = bind c (λ _. k)

-- the status where the test holds
abbrev pub refuse_if : Bool → ℕ → Checked (Unit {0})
refuse_if true status = refused status
refuse_if false status = passed tt

-- what was found, or the status
abbrev pub present : ℕ → Option ℕ → Checked ℕ
present status none = refused status
present status (some n) = passed n

-- the status where something was found
abbrev pub absent : ℕ → Option ℕ → Checked (Unit {0})
absent status none = passed tt
absent status (some n) = refused status
