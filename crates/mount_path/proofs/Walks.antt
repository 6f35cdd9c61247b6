-- A walk along the components of a path, step by step. Assumes nothing.
use Prim.Native.Nat.{ℕ, ◌+◌, ◌-◌, ◌≤◌, ◌<◌}
use mathlib.Core.Path.{◌≡◌, refl, sym, ap, ◌∙◌}
use mathlib.Core.List.{List, [], ◌∷◌}
use native.Mathlib.Omega.{arith}
use lib.ListN.{length}
use Rattle.std.specs.Prelude.{Result, Ok, Err}
use Rattle.kinds.specs.declared.numbers.ObjectNumber.{ObjectNumber}
use Rattle.kinds.specs.declared.numbers.Status.{Status}
use Rattle.spec.specs.Bytes.{part}
use Rattle.spec.specs.Checked.{Checked, passed, ◌>>=◌}
use Rattle.spec.specs.Image.{Store, objects}
use Rattle.spec.specs.Handles.{check_name}
use Rattle.spec.specs.Procedures.Names.{look_in, check_in}
use Rattle.laws.proofs.GoodRecords.{GoodRecords}
use Rattle.laws.proofs.Passed.{bind_passed, look_found}
use Rattle.store_search.proofs.Entry.{found_entry, parent_below}
use Rattle.check_handles.specs.Meaning.{reached_of}
use Rattle.mount_spec.specs.Path.{before, split, components, enter, walk}
use Rattle.mount_path.specs.Steps.{entered, InStore, Component}

module _ (s : Store) where
  -- an empty component is skipped, another one entered
  pub entered_none : (o : ℕ) (text : List ℕ) → length text ≡ 0 → entered s o text ≡ passed o
  entered_none o [] e = refl
  entered_none o (x ∷ xs) e = absurd (omega arith)

  pub entered_some : (o : ℕ) (text : List ℕ) → (length text ≡ 0 → ⊥) → entered s o text ≡ enter s o text
  entered_some o [] d = absurd (d refl)
  entered_some o (x ∷ xs) d = refl

  -- a walk along a component and others enters it, and goes on
  pub walk_before : (o : ℕ) (text : List ℕ) (rest : List (List ℕ)) → walk s o (before text rest) ≡ (entered s o text >>= λ next. walk s next rest)
  unfolding walk
  walk_before o [] rest = refl
  walk_before o (x ∷ xs) rest = refl

  -- a walk that has come to object o and to `from`, and enters the component there
  pub walk_step : (call : List ℕ) (whole : Checked ℕ) (end from at o : ℕ) (r : Result ObjectNumber Status) → whole ≡ walk s o (components (part call from (end - from)))
      → Component call from end at → reached_of r ≡ entered s o (part call from (at - from))
      → whole ≡ (reached_of r >>= λ next. walk s next (components (part call (at + 1) (end - (at + 1)))))
  walk_step call whole end from at o r e w f =
      e ∙ ap (walk s o) w.splits ∙ walk_before o (part call from (at - from)) (components (part call (at + 1) (end - (at + 1))))
      ∙ ap (λ (c : Checked ℕ). c >>= λ next. walk s next (components (part call (at + 1) (end - (at + 1))))) (sym f)

  -- a walk at its end
  pub walk_ended : (call : List ℕ) (end from o : ℕ) → end ≤ from → walk s o (components (part call from (end - from))) ≡ passed o
  unfolding walk components split part
  walk_ended call end from o h = let z : end - from ≡ 0 = omega arith in rw z refl

  -- what a step reaches is in the store
  module _ (g : GoodRecords s) where
    pub checked_below : (d : ℕ) (text : List ℕ) (r : Result ObjectNumber Status) → d < objects s → reached_of r ≡ check_in s d text → InStore s r
    unfolding check_in
    checked_below d text (Err status) h e = tt
    checked_below d text (Ok o) h e =
        bind_passed (check_name text) (λ _. look_in s d text) o.0 (sym e)
        (λ u p q. look_found (λ i. i < objects s) s d text o.0 q h (parent_below s g d) (λ n f. (found_entry s g d text n f).child_below))
