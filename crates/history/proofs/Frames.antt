-- The frames of spec's edits, as changes of the view. Assumes nothing.
use mathlib.Core.Path.{◌≡◌, sym, ap, ◌∙◌}
use mathlib.Core.Logic.{◌≢◌, by_cases}
use mathlib.Core.List.{[]}
use Prim.Native.Nat.{ℕ, ◌<◌}
use native.Mathlib.Decide.{dec_lt}
use native.Mathlib.Omega.{arith}
use Rattle.kinds.specs.declared.object.Object.{Object}
use Rattle.spec.specs.Image.{Store, objects, names, object_at, Name, name_at}
use Rattle.laws.proofs.Kept.{NameKept, NameIs}
use Rattle.laws.proofs.Shape.{SameShape}
use Rattle.history.proofs.View.{SameRecord, SetName, SetObj}
use Rattle.history.proofs.Seen.{within, within_yes, within_no, view, kind_at, gen_at, dir_at, child_at, text_at}

-- a record's reading stays, in range and out of range
within_same : {A : Type 0} (n m : ℕ) (y : A) (i : ℕ) (x x' : A) → m ≡ n → (i < n → x' ≡ x) → within m y i x' ≡ within n y i x
within_same n m y i x x' e h =
    by_cases (dec_lt i n)
    (λ l. within_yes m y i x' (omega arith) ∙ h l ∙ sym (within_yes n y i x l))
    (λ k. within_no m y i x' (omega arith) ∙ sym (within_no n y i x (omega arith)))

module _ (s t : Store) (e : SameShape s t) where
  pub kind_same : (i : ℕ) → (i < objects s → (object_at t i).kind ≡ (object_at s i).kind) → (view t).kind i ≡ (view s).kind i
  kind_same i h = within_same (objects s) (objects t) 0 i (object_at s i).kind (object_at t i).kind e.objects h

  pub gen_same : (i : ℕ) → (i < objects s → (object_at t i).generation ≡ (object_at s i).generation) → (view t).gen i ≡ (view s).gen i
  gen_same i h = within_same (objects s) (objects t) 0 i (object_at s i).generation (object_at t i).generation e.objects h

  pub name_same : (n : ℕ) → (n < names s → NameKept s t n) → SameRecord (view s) (view t) n
  name_same n h =
      record {
        dir = within_same (names s) (names t) 0 n (name_at s n).directory (name_at t n).directory e.names (λ l. ap (λ (x : Name). x.directory) (h l).all);
        child = within_same (names s) (names t) 0 n (name_at s n).child (name_at t n).child e.names (λ l. ap (λ (x : Name). x.child) (h l).all);
        text = within_same (names s) (names t) [] n (name_at s n).text (name_at t n).text e.names (λ l. ap (λ (x : Name). x.text) (h l).all);
      }

  pub set_obj : (o : ℕ) (v : Object) → o < objects s → object_at t o ≡ v → ((i : ℕ) → i < objects s → i ≢ o → object_at t i ≡ object_at s i)
      → SetObj (view s) (view t) o v.kind v.generation
  set_obj o v l h other =
      record {
        kind = kind_at t o (omega (arith, e.objects)) ∙ ap (λ (x : Object). x.kind) h;
        gen = gen_at t o (omega (arith, e.objects)) ∙ ap (λ (x : Object). x.generation) h;
        other = λ i n. (
          kind_same i (λ k. ap (λ (x : Object). x.kind) (other i k n)),
          gen_same i (λ k. ap (λ (x : Object). x.generation) (other i k n)),
        );
      }

  pub set_name : (n : ℕ) (x : Name) → n < names s → NameIs t n x → ((m : ℕ) → m < names s → m ≢ n → NameKept s t m)
      → SetName (view s) (view t) n x.directory x.child x.text
  set_name n x l h other =
      let k : n < names t = omega (arith, e.names) in
      record {
        dir = dir_at t n k ∙ ap (λ (y : Name). y.directory) h.all;
        child = child_at t n k ∙ ap (λ (y : Name). y.child) h.all;
        text = text_at t n k ∙ ap (λ (y : Name). y.text) h.all;
        other = λ m d. name_same m (λ j. other m j d);
      }
