-- The laws of zero bytes: what they spell, and that only they spell 0. Assumes nothing.
use mathlib.Core.Path.{◌≡◌, refl, sym, ap, ap₂, ◌∙◌}
use mathlib.Core.Bool.{Bool, true, ◌&&◌, and-true, and_assoc}
use mathlib.Core.List.{List, [], ◌∷◌, ◌++◌}
use Prim.Native.Nat.{ℕ, zero, suc, ◌+◌, ◌*◌, ◌≤◌, ◌<◌}
use native.Mathlib.Omega.{arith}
use native.Mathlib.Nat.{add-zero}
use native.Mathlib.Numerals.{add-one}
use lib.Dec.{eqb}
use lib.ListN.{length, get_or, length-replicate, get_or-replicate, replicate-append-replicate}
use lib.Seq.{ext_get_or}
use borrow.Author.Tests.{eqb-true, eq-eqb, ne_eqb}
use Rattle.spec.specs.Bytes.{part, digits, be_of, be_at, zeros, all_bytes}
use Rattle.spec.specs.Image.{halves_at}
use Rattle.spec.specs.Check.{is_zero}
use Rattle.laws.proofs.Bytes.{part_length, part_add, part_snoc, part_part, get_d_part}
use Rattle.laws.proofs.Count.{true_false, by_bool, and_both}
use Rattle.laws.proofs.Records.{half_read}

-- ---- every byte passes a test
all_append : (p : ℕ → Bool) (xs ys : List ℕ) → all_bytes p (xs ++ ys) ≡ all_bytes p xs && all_bytes p ys
unfolding all_bytes
all_append p [] ys = refl
all_append p (x ∷ xs) ys = rw (all_append p xs ys) (sym (and_assoc (p x) (all_bytes p xs) (all_bytes p ys)))

pub all_none : (p : ℕ → Bool) (b : List ℕ) (at : ℕ) → all_bytes p (part b at 0) ≡ true
unfolding all_bytes part
all_none p b at = refl

-- one byte more
pub all_next : (p : ℕ → Bool) (b : List ℕ) (at i : ℕ) → at + i < length b
    → all_bytes p (part b at (i + 1)) ≡ all_bytes p (part b at i) && p (get_or b (at + i) 0)
unfolding all_bytes
all_next p b at i h = rw (part_snoc b at i h, all_append) (ap (λ (t : Bool). all_bytes p (part b at i) && t) (and-true (p (get_or b (at + i) 0))))

-- ---- the test
pub zero_add : (b : List ℕ) (at m n : ℕ) → is_zero (part b at (m + n)) ≡ is_zero (part b at m) && is_zero (part b (at + m) n)
unfolding is_zero
zero_add b at m n = rw (part_add b at m n) (all_append (λ x. eqb x 0) (part b at m) (part b (at + m) n))

pub is_zero_zeros : (n : ℕ) → is_zero (zeros n) ≡ true
unfolding is_zero all_bytes
is_zero_zeros zero = refl
is_zero_zeros (suc n) = is_zero_zeros n

pub zeros_is_zero : (xs : List ℕ) (n : ℕ) → length xs ≡ n → is_zero xs ≡ true → xs ≡ zeros n
unfolding is_zero all_bytes
zeros_is_zero xs n l e = all xs e ∙ ap (λ (k : ℕ). zeros k) l
  where
    all : (ys : List ℕ) → is_zero ys ≡ true → ys ≡ zeros (length ys)
    all [] f = refl
    all (y ∷ ys) f = let p = and_both (eqb y 0) (is_zero ys) f in ap₂ (λ (a : ℕ) (l : List ℕ). a ∷ l) (eqb-true y 0 p.0) (all ys p.1)

-- ---- numbers
pub be_zeros : (w : ℕ) → be_of (zeros w) ≡ 0
unfolding be_of digits
be_zeros zero = refl
be_zeros (suc w) = be_zeros w

pub part_zeros : (n i w : ℕ) → i + w ≤ n → part (zeros n) i w ≡ zeros w
part_zeros n i w h =
    let l : length (part (zeros n) i w) ≡ w = part_length (zeros n) i w (rw length-replicate h) in
    ext_get_or 0 (part (zeros n) i w) (zeros w) (l ∙ sym (length-replicate w 0)) (λ k (b : k < length (part (zeros n) i w)).
    get_d_part (zeros n) i w k (omega arith) ∙ get_or-replicate n (i + k) 0 0 (omega arith) ∙ sym (get_or-replicate w k 0 0 (omega arith)))

-- a part of a part that is zero
pub zero_within : (b : List ℕ) (at n i w : ℕ) → part b at n ≡ zeros n → i + w ≤ n → part b (at + i) w ≡ zeros w
zero_within b at n i w e h = sym (part_part b at n i w h) ∙ ap (λ (x : List ℕ). part x i w) e ∙ part_zeros n i w h

pub be_zero : (b : List ℕ) (at w : ℕ) → part b at w ≡ zeros w → be_at b at w ≡ 0
unfolding be_at
be_zero b at w e = ap be_of e ∙ be_zeros w

digits_zero : (xs : List ℕ) (acc : ℕ) → digits acc xs ≡ 0 → (acc ≡ 0) × (is_zero xs ≡ true)
unfolding digits is_zero all_bytes
digits_zero [] acc e = (e, refl)
digits_zero (x ∷ xs) acc e =
    let r = digits_zero xs (acc * 256 + x) e in
    let q = r.0 in
    let z : x ≡ 0 = omega arith in
    (omega arith, rw (eq-eqb x 0 z) r.1)

zero_digits : (xs : List ℕ) → is_zero xs ≡ true → digits 0 xs ≡ 0
unfolding digits is_zero all_bytes
zero_digits [] e = refl
zero_digits (x ∷ xs) e =
    let p = and_both (eqb x 0) (all_bytes (λ y. eqb y 0) xs) e in
    rw (eqb-true x 0 p.0) (zero_digits xs p.1)

-- bytes are zero exactly where they spell 0
pub zero_number : (b : List ℕ) (at w : ℕ) → is_zero (part b at w) ≡ eqb (be_at b at w) 0
unfolding be_at be_of
zero_number b at w =
    by_bool (is_zero (part b at w)) (λ e. e ∙ sym (eq-eqb (digits 0 (part b at w)) 0 (zero_digits (part b at w) e)))
    (λ e. e ∙ sym (ne_eqb (digits 0 (part b at w)) 0 (λ q. true_false (sym (digits_zero (part b at w) 0 q).1 ∙ e))))

pub zero_part : (b : List ℕ) (at w : ℕ) → at + w ≤ length b → be_at b at w ≡ 0 → part b at w ≡ zeros w
zero_part b at w h e = zeros_is_zero (part b at w) w (part_length b at w h) (zero_number b at w ∙ eq-eqb (be_at b at w) 0 e)

-- zeros after zeros
pub zero_join : (b : List ℕ) (at m n : ℕ) → part b at m ≡ zeros m → part b (at + m) n ≡ zeros n → part b at (m + n) ≡ zeros (m + n)
zero_join b at m n e f = part_add b at m n ∙ ap₂ (λ (x y : List ℕ). x ++ y) e f ∙ replicate-append-replicate {A = ℕ} m n 0

-- ---- numbers of two bytes
pub halves_zero : (b : List ℕ) (at k : ℕ) → part b at (2 * k) ≡ zeros (2 * k) → halves_at b at k ≡ zeros k
unfolding halves_at
halves_zero b at zero e = refl
halves_zero b at (suc k) e =
    let front : part b (at + 0) (2 * k) ≡ zeros (2 * k) = zero_within b at (2 * suc k) 0 (2 * k) e (omega arith) in
    ap₂ (λ (x : List ℕ) (y : ℕ). x ++ (y ∷ [])) (halves_zero b at k (rw add-zero at front))
    (be_zero b (at + 2 * k) 2 (zero_within b at (2 * suc k) (2 * k) 2 e (omega arith)))
    ∙ replicate-append-replicate {A = ℕ} k 1 0 ∙ ap (λ (n : ℕ). zeros n) (add-one k)

pub zero_halves : (b : List ℕ) (at n : ℕ) → at + 2 * n ≤ length b → halves_at b at n ≡ zeros n → part b at (2 * n) ≡ zeros (2 * n)
unfolding part
zero_halves b at n h e = run n (omega arith)
  where
    run : (k : ℕ) → k ≤ n → part b at (2 * k) ≡ zeros (2 * k)
    run zero l = refl
    run (suc k) l =
        let z : be_at b (at + 2 * k) 2 ≡ 0 = sym (half_read b at n k l) ∙ ap (λ (x : List ℕ). get_or x k 0) e ∙ get_or-replicate n k 0 0 l in
        let t : 2 * suc k ≡ 2 * k + 2 = omega arith in
        rw t (zero_join b at (2 * k) 2 (run k (omega arith)) (zero_part b (at + 2 * k) 2 (omega arith) z))
