-- A store's bytes as a view: functions of a record's number, built from spec's readers. A number out of range reads as free. The counts and
-- searches of spec are those of the view. Assumes nothing.
use mathlib.Core.Path.{◌≡◌, refl, sym, ap, ◌∙◌}
use mathlib.Core.Logic.{by_cases, ◌⊎◌}
use mathlib.Core.Bool.{Bool, true, ◌&&◌, cond}
use mathlib.Core.Option.{Option, some, none}
use mathlib.Core.List.{List, []}
use Prim.Native.Nat.{ℕ, ◌≤◌, ◌<◌}
use native.Mathlib.Decide.{dec_lt}
use native.Mathlib.Omega.{arith}
use lib.Dec.{eqb, ltb}
use lib.ListN.{length}
use borrow.Author.Tests.{eq-eqb, eqb-true, lt-ltb, le-ltb}
use Rattle.spec.specs.Bytes.{same_bytes}
use Rattle.spec.specs.Count.{bit, sum, count, lowest, iterate, times}
use Rattle.spec.specs.Image.{Store, objects, names, object_at, name_at, name_length}
use Rattle.spec.specs.Room.{is_used_name, is_naming, is_in, is_named, held, uses, parent, directory_of, above}
use Rattle.spec.specs.Room as Spec
use Rattle.laws.proofs.Bytes.{same_yes}
use Rattle.laws.proofs.Count.{sum_ext, and_both, lowest_ext, lowest_passes}
use Rattle.laws.proofs.Searches.{iterate_ext}
use Rattle.laws.proofs.Tests.{and_true}
use Rattle.laws.proofs.Valid.{GoodNameRecord, GoodNames, used_true, true_used}
use Rattle.history.proofs.Sum.{holds, ind, holds_same}
use Rattle.history.proofs.Lists.{same_true}
use Rattle.history.proofs.View.{View, LiveIn, UsedIn, names?, at?, namings_in, entries_at}
use Rattle.history.proofs.Walk.{directory_at, parent_in}

-- x below n, and y from n on
pub within : {A : Type 0} → ℕ → A → ℕ → A → A
within n y i x = cond (ltb i n) x y

pub within_yes : {A : Type 0} (n : ℕ) (y : A) (i : ℕ) (x : A) → i < n → within n y i x ≡ x
unfolding within
within_yes n y i x l = ap (λ (b : Bool). cond b x y) (lt-ltb i n l)

pub within_no : {A : Type 0} (n : ℕ) (y : A) (i : ℕ) (x : A) → n ≤ i → within n y i x ≡ y
unfolding within
within_no n y i x l = ap (λ (b : Bool). cond b x y) (le-ltb i n l)

abbrev pub view : Store → View
view s =
    record {
      kind = λ i. within (objects s) 0 i (object_at s i).kind;
      gen = λ i. within (objects s) 0 i (object_at s i).generation;
      dir = λ n. within (names s) 0 n (name_at s n).directory;
      child = λ n. within (names s) 0 n (name_at s n).child;
      text = λ n. within (names s) [] n (name_at s n).text;
    }

-- the blocks of each object
abbrev pub held_by : Store → ℕ → List ℕ
held_by s i = within (objects s) [] i (held s i)

module _ (s : Store) where
  pub kind_at : (i : ℕ) → i < objects s → (view s).kind i ≡ (object_at s i).kind
  kind_at i l = within_yes (objects s) 0 i (object_at s i).kind l

  pub gen_at : (i : ℕ) → i < objects s → (view s).gen i ≡ (object_at s i).generation
  gen_at i l = within_yes (objects s) 0 i (object_at s i).generation l

  pub dir_at : (n : ℕ) → n < names s → (view s).dir n ≡ (name_at s n).directory
  dir_at n l = within_yes (names s) 0 n (name_at s n).directory l

  pub child_at : (n : ℕ) → n < names s → (view s).child n ≡ (name_at s n).child
  child_at n l = within_yes (names s) 0 n (name_at s n).child l

  pub text_at : (n : ℕ) → n < names s → (view s).text n ≡ (name_at s n).text
  text_at n l = within_yes (names s) [] n (name_at s n).text l

  pub held_at : (i : ℕ) → i < objects s → held_by s i ≡ held s i
  held_at i l = within_yes (objects s) [] i (held s i) l

  pub live_in : (i : ℕ) → LiveIn (view s) i → i < objects s
  live_in i l = by_cases (dec_lt i (objects s)) (λ k. k) (λ n. absurd (omega (arith, within_no (objects s) 0 i (object_at s i).kind (omega arith))))

  pub used_in : (n : ℕ) → UsedIn (view s) n → n < names s
  used_in n u = by_cases (dec_lt n (names s)) (λ k. k) (λ x. absurd (omega (arith, ap length (within_no (names s) [] n (name_at s n).text (omega arith)))))

  pub held_in : (i : ℕ) → 0 < length (held_by s i) → i < objects s
  held_in i u = by_cases (dec_lt i (objects s)) (λ k. k) (λ x. absurd (omega (arith, ap length (within_no (objects s) [] i (held s i) (omega arith)))))

  pub uses_same : (b : ℕ) → sum (objects s) (λ i. times b (held_by s i)) ≡ uses s b
  unfolding uses
  uses_same b = sum_ext (objects s) (λ i. times b (held_by s i)) (λ i. times b (held s i)) (λ i l. ap (times b) (held_at i l))

-- where every name record is as the check demands
module _ (s : Store) (N : GoodNames s) where
  pub text_long : (n : ℕ) → n < names s → length (name_at s n).text ≡ name_length s n
  text_long n l = go (N n l)
    where
      go : GoodNameRecord s n → length (name_at s n).text ≡ name_length s n
      go (◌⊎◌.inl f) = ap (λ v. length v.text) f.all ∙ sym f.empty
      go (◌⊎◌.inr u) = u.exact

  pub used_of : (n : ℕ) → n < names s → UsedIn (view s) n → is_used_name s n ≡ true
  used_of n l u = true_used s n (omega (arith, ap length (text_at s n l), text_long n l))

  pub of_used : (n : ℕ) → n < names s → is_used_name s n ≡ true → UsedIn (view s) n
  of_used n l e = omega (arith, ap length (text_at s n l), text_long n l, used_true s n e)

  pub naming_same : (o n : ℕ) → n < names s → holds (names? (view s) n o) ≡ is_naming s o n
  unfolding is_naming
  naming_same o n l =
      holds_same (names? (view s) n o) (is_used_name s n && eqb (name_at s n).child o)
      (λ h. and_true (is_used_name s n) (eqb (name_at s n).child o) (used_of n l h.0) (eq-eqb (name_at s n).child o (sym (child_at s n l) ∙ h.1)))
      (λ e. let p = and_both (is_used_name s n) (eqb (name_at s n).child o) e in
      (of_used n l p.0, child_at s n l ∙ eqb-true (name_at s n).child o p.1))

  pub named_same : (d : ℕ) (t : List ℕ) (n : ℕ) → n < names s → holds (at? (view s) n d t) ≡ is_named s d t n
  unfolding is_named is_in
  named_same d t n l =
      let x = is_used_name s n in
      let y = eqb (name_at s n).directory d in
      let z = eqb (name_length s n) (length t) in
      let w = same_bytes (name_at s n).text t in
      holds_same (at? (view s) n d t) ((x && y) && (z && w))
      (λ h. let e : (name_at s n).text ≡ t = sym (text_at s n l) ∙ h.2 in
      and_true (x && y) (z && w)
      (and_true x y (used_of n l h.0) (eq-eqb (name_at s n).directory d (sym (dir_at s n l) ∙ h.1)))
      (and_true z w (eq-eqb (name_length s n) (length t) (sym (text_long n l) ∙ ap length e)) (same_yes (name_at s n).text t e)))
      (λ e. let p = and_both (x && y) (z && w) e in
      let a = and_both x y p.0 in
      let b = and_both z w p.1 in
      (of_used n l a.0, dir_at s n l ∙ eqb-true (name_at s n).directory d a.1, text_at s n l ∙ same_true (name_at s n).text t b.1))

  pub namings_same : (o : ℕ) → namings_in (names s) (view s) o ≡ Spec.namings s o
  unfolding Spec.namings
  namings_same o = sum_ext (names s) (λ n. ind (names? (view s) n o)) (λ n. bit (is_naming s o n)) (λ n l. ap bit (naming_same o n l))

  pub entries_same : (d : ℕ) (t : List ℕ) → entries_at (names s) (view s) d t ≡ count (names s) (is_named s d t)
  entries_same d t = sum_ext (names s) (λ n. ind (at? (view s) n d t)) (λ n. bit (is_named s d t n)) (λ n l. ap bit (named_same d t n l))

  pub parent_same : (o : ℕ) → parent_in (names s) (view s) o ≡ parent s o
  unfolding parent
  parent_same o =
      ap (directory_at (view s)) (lowest_ext (λ n. holds (names? (view s) n o)) (is_naming s o) (names s) (naming_same o))
      ∙ go (lowest (names s) (is_naming s o)) refl
    where
      go : (x : Option ℕ) → lowest (names s) (is_naming s o) ≡ x → directory_at (view s) x ≡ directory_of s x
      go none e = refl
      go (some n) e = dir_at s n (lowest_passes (is_naming s o) (names s) n e).below

  pub above_same : (k o : ℕ) → iterate k (parent_in (names s) (view s)) o ≡ above s k o
  unfolding above
  above_same k o = iterate_ext k (parent_in (names s) (view s)) (parent s) o parent_same
