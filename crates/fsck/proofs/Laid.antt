-- The bytes that format writes. Assumes nothing.
use mathlib.Core.Path.{◌≡◌, refl, sym, ap, ap₂, ◌∙◌}
use mathlib.Core.List.{List, [], ◌∷◌, ◌++◌, append_assoc, append-nil}
use Prim.Native.Nat.{ℕ, zero, suc, ◌+◌, ◌*◌, ◌-◌, ◌≤◌}
use native.Mathlib.Omega.{arith}
use lib.Dec.{eqb, ltb}
use lib.ListN.{length, take, drop, length-append, length-replicate}
use lib.Seq.{take-append-add, drop-append-add, drop-length}
use borrow.Author.Tests.{eqb-true}
use Rattle.kinds.specs.Layout.{stamp_offset, object_count_offset, objects_head, names_head, object_length, name_record_length, block_length}
use Rattle.kinds.specs.Numbers.{nanoseconds_end, most_objects, most_name_records}
use Rattle.kinds.specs.Objects.{root_object}
use Rattle.kinds.specs.declared.object.Time.{Time}
use Rattle.spec.specs.Bytes.{overlay, zeros, bytes_of, words}
use Rattle.spec.specs.Image.{Store, object_bytes, put_object, object_start}
use Rattle.spec.specs.Check.{good_counts, image_length, good_time}
use Rattle.spec.specs.Serve.{formatted, format}
use Rattle.laws.proofs.Bytes.{bytes_length, overlay_more}
use Rattle.laws.proofs.Count.{by_bool}
use Rattle.laws.proofs.Records.{object_length_lem}
use Rattle.laws.proofs.Valid.{counts_by}
use Rattle.laws.proofs.Words.{words_one}
use Rattle.fsck.specs.Format.{answer_for, front_of, Leaves}

take_zeros : (g k : ℕ) → g ≤ k → take g (zeros k) ≡ zeros g
take_zeros zero k h = refl
take_zeros (suc g) zero h = absurd (omega arith)
take_zeros (suc g) (suc k) h = ap (λ (l : List ℕ). 0 ∷ l) (take_zeros g k (omega arith))

as_many : (k j : ℕ) → k ≡ j → zeros k ≡ zeros j
as_many k j e = ap zeros e

drop_zeros : (g k : ℕ) → drop g (zeros k) ≡ zeros (k - g)
drop_zeros zero k = as_many k (k - 0) (omega arith)
drop_zeros (suc g) zero = as_many 0 (0 - suc g) (omega arith)
drop_zeros (suc g) (suc k) = drop_zeros g k ∙ as_many (k - g) (suc k - suc g) (omega arith)

-- ys written g bytes into the zeros after xs
lay : (xs ys : List ℕ) (g n rest at : ℕ) → at ≡ length xs + g → length ys ≡ n → overlay (xs ++ zeros (g + n + rest)) at ys ≡ xs ++ zeros g ++ ys ++ zeros rest
unfolding overlay
lay xs ys g n rest at e l =
    let k = g + n + rest in
    ap₂ (λ (a b : List ℕ). a ++ ys ++ b)
    (ap (λ (q : ℕ). take q (xs ++ zeros k)) e ∙ take-append-add xs (zeros k) g ∙ ap (λ (z : List ℕ). xs ++ z) (take_zeros g k (omega arith)))
    (ap (λ (q : ℕ). drop q (xs ++ zeros k)) (reach at (length ys) (length xs) g n e l) ∙ drop-append-add xs (zeros k) (g + n) ∙ drop_zeros (g + n) k
    ∙ as_many (k - (g + n)) rest (omega arith))
  where
    reach : (at y x g n : ℕ) → at ≡ x + g → y ≡ n → at + y ≡ x + (g + n)
    reach at y x g n e l = omega arith

-- a step of the writing: what stands at the front, and the zeros that are left
step : (s s' xs ys : List ℕ) (k g n rest at : ℕ) → s ≡ xs ++ zeros k → s' ≡ overlay s at ys → k ≡ g + n + rest → at ≡ length xs + g → length ys ≡ n
    → s' ≡ xs ++ zeros g ++ ys ++ zeros rest
step s s' xs ys k g n rest at a b c e l =
    b ∙ ap (λ (z : List ℕ). overlay z at ys) (a ∙ ap (λ (j : ℕ). xs ++ zeros j) c) ∙ lay xs ys g n rest at e l

zero_more : (n : ℕ) → 0 + n ≡ n
zero_more n = omega arith

whole : (s xs : List ℕ) → length xs ≡ length s → overlay s 0 xs ≡ xs
unfolding overlay
whole s xs e = ap (λ (q : ℕ). xs ++ drop q s) (zero_more (length xs) ∙ e) ∙ ap (λ (z : List ℕ). xs ++ z) (drop-length s) ∙ append-nil xs

long_all : (xs : List ℕ) (k n : ℕ) → length xs ≡ object_start 1 → object_start 1 + k ≡ n → length (xs ++ zeros k) ≡ n
long_all xs k n e f = length-append xs (zeros k) ∙ ap₂ (λ (i j : ℕ). i + j) e (length-replicate k 0) ∙ f

words_three : (a b c : ℕ) → words (a ∷ b ∷ c ∷ []) ≡ bytes_of 4 a ++ bytes_of 4 b ++ bytes_of 4 c
unfolding words
words_three a b c = simp (append_assoc, append-nil)

-- the writes of a whole store, with z zero bytes between the root and the count of names
module _ (s s₅ s₆ s₇ : List ℕ) (stamp p q r z : ℕ) (clock : Time) (m : z + object_length ≡ object_length * p) (l : length s ≡ image_length p q r) where
  three_length : length (bytes_of 4 1 ++ bytes_of 4 stamp ++ bytes_of 4 p) ≡ objects_head
  three_length = simp (length-append, bytes_length)

  run_front : s₅ ≡ front_of s stamp p clock → s₅ ≡ bytes_of 4 1 ++ bytes_of 4 stamp ++ bytes_of 4 p ++ object_bytes (root_object clock) ++ zeros
      (z + 4 + (name_record_length * q + 4 + block_length * r))
  unfolding put_object front_of
  run_front e =
      let v = object_bytes (root_object clock) in
      let b₁ = bytes_of 4 1 in
      let b₂ = bytes_of 4 stamp in
      let b₃ = bytes_of 4 p in
      let k = z + 4 + (name_record_length * q + 4 + block_length * r) in
      let s₁ = overlay s 0 b₁ in
      let s₂ = overlay s₁ stamp_offset b₂ in
      let s₃ = overlay s₂ object_count_offset b₃ in
      let s₄ = overlay s₃ objects_head v in
      let l₂ : length (b₁ ++ b₂) ≡ object_count_offset = simp (length-append, bytes_length) in
      let l₄ : length (b₁ ++ b₂ ++ b₃ ++ v) ≡ object_start 1 = simp (length-append, bytes_length, object_length_lem) in
      let f₂ = overlay_more s 0 b₁ b₂ s₁ s₂ stamp_offset (omega arith) (bytes_length 4 1) refl refl in
      let f₃ = overlay_more s 0 (b₁ ++ b₂) b₃ s₂ s₃ object_count_offset (omega arith) l₂ f₂ refl in
      let f₄ = overlay_more s 0 (b₁ ++ b₂ ++ b₃) v s₃ s₄ objects_head (omega arith) three_length f₃ refl in
      let w : length s - object_start 1 ≡ k = omega arith in
      let f₅ = overlay_more s 0 (b₁ ++ b₂ ++ b₃ ++ v) (zeros k) s₄ s₅ (object_start 1) (omega arith) l₄ f₄
      (e ∙ ap (λ (n : ℕ). overlay s₄ (object_start 1) (zeros n)) w) in
      f₅ ∙ whole s (b₁ ++ b₂ ++ b₃ ++ v ++ zeros k) (long_all (b₁ ++ b₂ ++ b₃ ++ v) k (length s) l₄ (omega arith))

  run_counts : (at bt : ℕ) → s₅ ≡ front_of s stamp p clock → at ≡ objects_head + object_length * p
      → bt ≡ names_head + object_length * p + name_record_length * q → s₆ ≡ overlay s₅ at (bytes_of 4 q)
      → s₇ ≡ overlay s₆ bt (bytes_of 4 r)
      → s₇ ≡ bytes_of 4 1 ++ bytes_of 4 stamp ++ bytes_of 4 p ++ object_bytes (root_object clock) ++ zeros z ++ bytes_of 4 q ++ zeros
      (name_record_length * q) ++ bytes_of 4 r ++ zeros (block_length * r)
  run_counts at bt e u w e₆ e₇ =
      let xs = bytes_of 4 1 ++ bytes_of 4 stamp ++ bytes_of 4 p ++ object_bytes (root_object clock) in
      let l₅ : length xs ≡ object_start 1 = simp (length-append, bytes_length, object_length_lem) in
      let f₆ = step s₅ s₆ xs (bytes_of 4 q) (z + 4 + (name_record_length * q + 4 + block_length * r)) z 4 (name_record_length * q + 4 + block_length * r) at
      (run_front e) e₆ refl (omega arith) (bytes_length 4 q) in
      let ys = xs ++ zeros z ++ bytes_of 4 q in
      let l₆ : length ys ≡ object_start 1 + 4 + z = simp (length-append, bytes_length, object_length_lem, length-replicate) (omega arith) in
      step s₆ s₇ ys (bytes_of 4 r) (name_record_length * q + 4 + block_length * r) (name_record_length * q) 4 (block_length * r) bt f₆ e₇
      refl (omega arith) (bytes_length 4 r)

pub format_run : (s s₅ s₆ s₇ : List ℕ) (stamp p q r at bt : ℕ) (clock : Time) → 1 ≤ p → length s ≡ image_length p q r → s₅ ≡ front_of s stamp p clock
    → at ≡ objects_head + object_length * p → bt ≡ names_head + object_length * p + name_record_length * q → s₆ ≡ overlay s₅ at (bytes_of 4 q)
    → s₇ ≡ overlay s₆ bt (bytes_of 4 r) → s₇ ≡ formatted stamp p q r clock
unfolding formatted
format_run s s₅ s₆ s₇ stamp p q r at bt clock h l e u w e₆ e₇ =
    run_counts s s₅ s₆ s₇ stamp p q r (object_length * (p - 1)) clock (omega arith) l at bt e u w e₆ e₇ ∙ rw (words_three, words_one, words_one)

-- ---- what format is asked for where it answers 0
pub record Asked (s : Store) (p q r : ℕ) : Type 0 where
  pub least : 1 ≤ p
  pub few : p ≤ most_objects
  pub few_names : q ≤ most_name_records
  pub long : length s ≡ image_length p q r

module _ (s : Store) (stamp p q r : ℕ) (clock : Time) where
  pub asked : answer_for (length s) p q r clock.nanoseconds ≡ 0 → Asked s p q r
  unfolding answer_for
  asked e =
      by_bool (ltb clock.nanoseconds nanoseconds_end)
      (λ a. by_bool (good_counts p q r)
      (λ b. by_bool (eqb (length s) (image_length p q r))
      (λ d. let k = counts_by p q r b in
      record {
        least = k.0;
        few = k.1;
        few_names = k.2;
        long = eqb-true (length s) (image_length p q r) d;
      })
      (λ d. let z : ◌≡◌ {A = ℕ} 6 0 = rw (a, b, d) at e in absurd (omega arith)))
      (λ b. let z : ◌≡◌ {A = ℕ} 6 0 = rw (a, b) at e in absurd (omega arith)))
      (λ a. let z : ◌≡◌ {A = ℕ} 3 0 = rw a at e in absurd (omega arith))

  -- its number, and its buffer on another number and on 0
  number_is : (format s stamp p q r clock).number ≡ answer_for (length s) p q r clock.nanoseconds
  unfolding format answer_for good_time
  number_is =
      by_bool (ltb clock.nanoseconds nanoseconds_end)
      (λ a. rw a (by_bool (good_counts p q r)
      (λ b. rw b (by_bool (eqb (length s) (image_length p q r)) (λ d. rw d) (λ d. rw d)))
      (λ b. rw b)))
      (λ a. rw a)

  store_stays : (answer_for (length s) p q r clock.nanoseconds ≡ 0 → ⊥) → (format s stamp p q r clock).store ≡ s
  unfolding format answer_for good_time
  store_stays f =
      by_bool (ltb clock.nanoseconds nanoseconds_end)
      (λ a. by_bool (good_counts p q r)
      (λ b. by_bool (eqb (length s) (image_length p q r)) (λ d. absurd (f (rw (a, b, d)))) (λ d. rw (a, b, d)))
      (λ b. rw (a, b)))
      (λ a. rw a)

  store_is : answer_for (length s) p q r clock.nanoseconds ≡ 0 → (format s stamp p q r clock).store ≡ formatted stamp p q r clock
  unfolding format answer_for good_time
  store_is e =
      by_bool (ltb clock.nanoseconds nanoseconds_end)
      (λ a. by_bool (good_counts p q r)
      (λ b. by_bool (eqb (length s) (image_length p q r)) (λ d. rw (a, b, d)) (λ d. let z : ◌≡◌ {A = ℕ} 6 0 = rw (a, b, d) at e in absurd (omega arith)))
      (λ b. let z : ◌≡◌ {A = ℕ} 6 0 = rw (a, b) at e in absurd (omega arith)))
      (λ a. let z : ◌≡◌ {A = ℕ} 3 0 = rw a at e in absurd (omega arith))

  pub leaves_refused : (n : ℕ) → n ≡ answer_for (length s) p q r clock.nanoseconds → (n ≡ 0 → ⊥) → Leaves (format s stamp p q r clock) n s
  leaves_refused n e f = record { answers = e ∙ sym number_is; leaves = sym (store_stays (λ z. f (e ∙ z))) }

  pub leaves_done : (s' : Store) → answer_for (length s) p q r clock.nanoseconds ≡ 0 → s' ≡ formatted stamp p q r clock
      → Leaves (format s stamp p q r clock) 0 s'
  leaves_done s' e f = record { answers = sym (number_is ∙ e); leaves = f ∙ sym (store_is e) }
