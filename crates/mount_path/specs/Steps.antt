-- The steps of a walk, as the code takes them.
use Rattle.std.specs.Prelude.{ℕ, ◌+◌, ◌-◌, ◌≤◌, ◌<◌, ◌≡◌, List, [], ◌∷◌, Result, Ok, Err}
use Rattle.spec.specs.Bytes.{part}
use Rattle.spec.specs.Checked.{Checked, passed}
use Rattle.spec.specs.Image.{Store, objects}
use Rattle.kinds.specs.declared.numbers.ObjectNumber.{ObjectNumber}
use Rattle.kinds.specs.declared.numbers.Status.{Status}
use Rattle.mount_spec.specs.Path.{before, components, enter}

-- the object of a component in object o; an empty component is skipped
abbrev pub entered : Store → ℕ → List ℕ → Checked ℕ
entered s o [] = passed o
entered s o (x ∷ xs) = enter s o (x ∷ xs)

-- what was reached is an object of the store
abbrev pub InStore : Store → Result ObjectNumber Status → Type 0
InStore s (Ok o) = o.0 < objects s
InStore s (Err status) = Unit {0}

-- the component from `from` ends at `at`: a path that ends at `end` goes on behind that, where it goes on
pub record Component (call : List ℕ) (from end at : ℕ) : Type 0 where
  pub low : from ≤ at
  pub high : at ≤ end
  pub splits : components (part call from (end - from)) ≡ before (part call from (at - from)) (components (part call (at + 1) (end - (at + 1))))
