-- That numbers read from bytes fit, and that writes keep bytes bytes. Assumes nothing.
use mathlib.Core.Path.{◌≡◌, refl, sym, ap, ap₂, ◌∙◌}
use mathlib.Core.List.{List, [], ◌∷◌, ◌++◌}
use Prim.Native.Nat.{ℕ, zero, suc, ◌+◌, ◌*◌, ◌/◌, ◌%◌, ◌^◌, ◌≤◌, ◌<◌}
use native.Mathlib.Omega.{arith}
use native.Mathlib.Nat.{mod-lt, add-zero, add-suc, suc-add, zero-add, pow-suc, pow-le-pow_right, lt_of_lt_of_le, mul-add-div_right, div-eq_of_lt, one-le-pow}
use lib.Arith.{digits_lt}
use lib.Dec.{lit<}
use lib.ListN.{length, take, drop, get_or, length-take}
use Rattle.spec.specs.Bytes.{part, overlay, digits, be_of, bytes_of, be_at}
use Rattle.laws.proofs.Bytes.{part_cons, be_add}

-- every element is below m (past the end, where `get_or` gives 0, too)
abbrev pub Below : ℕ → List ℕ → Type 0
Below m xs = (k : ℕ) → get_or xs k 0 < m

pub below_append : (m : ℕ) (xs ys : List ℕ) → Below m xs → Below m ys → Below m (xs ++ ys)
below_append m [] ys f g k = g k
below_append m (x ∷ xs) ys f g zero = f zero
below_append m (x ∷ xs) ys f g (suc k) = below_append m xs ys (λ j. f (suc j)) g k

pub below_drop : (m : ℕ) (xs : List ℕ) (n : ℕ) → Below m xs → Below m (drop n xs)
below_drop m xs zero f k = f k
below_drop m [] (suc n) f k = f k
below_drop m (x ∷ xs) (suc n) f k = below_drop m xs n (λ j. f (suc j)) k

pub below_take : (m : ℕ) (xs : List ℕ) (n : ℕ) → 0 < m → Below m xs → Below m (take n xs)
below_take m xs zero p f k = p
below_take m [] (suc n) p f k = p
below_take m (x ∷ xs) (suc n) p f zero = f zero
below_take m (x ∷ xs) (suc n) p f (suc k) = below_take m xs n p (λ j. f (suc j)) k

pub below_bytes : (w n : ℕ) → Below 256 (bytes_of w n)
unfolding bytes_of
below_bytes zero n k = lit< tt
below_bytes (suc w) n zero = mod-lt (n / 256 ^ w) (lit< tt)
below_bytes (suc w) n (suc k) = below_bytes w n k

pub below_overlay : (b : List ℕ) (at : ℕ) (xs : List ℕ) → Below 256 b → Below 256 xs → Below 256 (overlay b at xs)
unfolding overlay
below_overlay b at xs f g =
    below_append 256 (take at b ++ xs) (drop (at + length xs) b) (below_append 256 (take at b) xs (below_take 256 b at (lit< tt) f) g)
    (below_drop 256 b (at + length xs) f)

digits_below : (xs : List ℕ) (acc k : ℕ) → Below 256 xs → acc < 256 ^ k → digits acc xs < 256 ^ (k + length xs)
unfolding digits
digits_below [] acc k f h = rw add-zero h
digits_below (x ∷ xs) acc k f h =
    rw (add-suc, ← suc-add) (digits_below xs (acc * 256 + x) (suc k) (λ j. f (suc j)) (rw pow-suc (digits_lt h (f 0))))

pub be_below : (b : List ℕ) (at w : ℕ) → Below 256 b → be_at b at w < 256 ^ w
unfolding be_at be_of part
be_below b at w f =
    lt_of_lt_of_le
    (rw zero-add at (digits_below (take w (drop at b)) 0 0 (below_take 256 (drop at b) w (lit< tt) (below_drop 256 b at f)) (lit< tt)))
    (pow-le-pow_right (lit< tt) (simp length-take (omega arith)))

-- ---- a number that was read, written again
-- one byte, as a number
byte_at_lem : (b : List ℕ) (p : ℕ) → p < length b → be_at b p 1 ≡ get_or b p 0
unfolding be_at be_of digits part
byte_at_lem b p h = ap (digits 0) (part_cons b p 0 h) ∙ omega arith

-- the lowest w bytes of a number of k + w bytes
bytes_low : (b : List ℕ) → Below 256 b → (w at k : ℕ) → at + (k + w) ≤ length b → bytes_of w (be_at b at (k + w)) ≡ part b (at + k) w
unfolding bytes_of part
bytes_low b f zero at k h = refl
bytes_low b f (suc w) at k h =
    let e : k + suc w ≡ k + 1 + w = omega arith in
    let number : be_at b at (k + suc w) ≡ be_at b at (k + 1) * 256 ^ w + be_at b (at + (k + 1)) w = ap (be_at b at) e ∙ be_add b at (k + 1) w (omega arith) in
    let front : be_at b at (k + 1) ≡ be_at b at k * 256 + be_at b (at + k) 1 = be_add b at k 1 (omega arith) in
    let high : be_at b at (k + suc w) / 256 ^ w ≡ be_at b at (k + 1) =
    ap (λ (x : ℕ). x / 256 ^ w) number ∙ mul-add-div_right (one-le-pow w 256 (lit< tt)) (be_at b at (k + 1)) (be_at b (at + (k + 1)) w)
    ∙ rw (div-eq_of_lt (be_below b (at + (k + 1)) w f)) (omega arith) in
    let head : be_at b at (k + suc w) / 256 ^ w % 256 ≡ get_or b (at + k) 0 =
    ap (λ (x : ℕ). x % 256) high ∙ omega (arith, front, byte_at_lem b (at + k) (omega arith), f (at + k)) in
    let behind : at + (k + 1) ≡ suc (at + k) = omega arith in
    let tail : bytes_of w (be_at b at (k + suc w)) ≡ part b (suc (at + k)) w =
    ap (λ (x : ℕ). bytes_of w (be_at b at x)) e ∙ bytes_low b f w at (k + 1) (omega arith) ∙ ap (λ (p : ℕ). part b p w) behind in
    ap₂ (λ (x : ℕ) (xs : List ℕ). x ∷ xs) head tail ∙ sym (part_cons b (at + k) w (omega arith))

-- a number of w bytes
pub bytes_kept : (b : List ℕ) → Below 256 b → (w at : ℕ) → at + w ≤ length b → bytes_of w (be_at b at w) ≡ part b at w
bytes_kept b f w at h =
    let e : at + 0 ≡ at = omega arith in
    let z : w ≡ 0 + w = omega arith in
    ap (λ (x : ℕ). bytes_of w (be_at b at x)) z ∙ bytes_low b f w at 0 (omega arith) ∙ ap (λ (p : ℕ). part b p w) e
