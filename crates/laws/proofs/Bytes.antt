-- The laws of parts, overlays and big-endian numbers. Assumes nothing.
use mathlib.Core.Path.{◌≡◌, refl, sym, ap, ap₂, ◌∙◌}
use mathlib.Core.Bool.{Bool, true, false, ◌&&◌, cond}
use borrow.Author.Tests.{eq-eqb, eqb-true}
use mathlib.Core.List.{List, [], ◌∷◌, ◌++◌, append_assoc, append-nil}
use Prim.Native.Nat.{ℕ, zero, suc, ◌+◌, ◌-◌, ◌*◌, ◌/◌, ◌%◌, ◌^◌, ◌≤◌, ◌<◌}
use mathlib.Core.Logic.{◌⊎◌}
use native.Mathlib.Decide.{dec_lt}
use native.Mathlib.Omega.{arith}
use native.Mathlib.Nat.{div-one, add-zero, mod-eq_of_lt, add_assoc, pow-succ', one-le-pow, add-mul, mul_assoc}
use native.Mathlib.Numerals.{add-one, towards_suc}
use lib.ListN.{take-append-drop, length, take, drop, get_or, set, length-append, length-take, length-drop}
use lib.Seq.{get_or-take, set_split, append_snoc, take-suc, get_or-drop, take_at, take-length, take-take, drop-drop, take-add, take-append-le}
use lib.Seq.{drop-append-le, drop-append-add, drop-cons, sets-eq, ext_get_or}
use lib.Arith.{mod-mul}
use lib.Dec.{lit<, eqb}
use Rattle.spec.specs.Bytes.{part, overlay, digits, be_of, bytes_of, be_at, same_bytes, pairs}

-- ---- numbers, by cases
pub lt_or_le : (a b : ℕ) → (a < b) ⊎ (b ≤ a)
lt_or_le a b = from (dec_lt a b)
  where
    from : Dec (a < b) → (a < b) ⊎ (b ≤ a)
    from (yes h) = ◌⊎◌.inl h
    from (no h) = ◌⊎◌.inr (omega arith)

-- ---- parts
pub part_cons : (b : List ℕ) (at w : ℕ) → at < length b → part b at (suc w) ≡ get_or b at 0 ∷ part b (suc at) w
unfolding part
part_cons b at w h = rw (drop-cons b at 0)

pub part_length : (b : List ℕ) (at n : ℕ) → at + n ≤ length b → length (part b at n) ≡ n
unfolding part
part_length b at n h = simp (length-take, length-drop) (omega arith)

pub part_add : (b : List ℕ) (at m n : ℕ) → part b at (m + n) ≡ part b at m ++ part b (at + m) n
unfolding part
part_add b at m n = rw (take-add, drop-drop)

-- a part of the front
front_part : (l : List ℕ) (n i m : ℕ) → i + m ≤ n → take m (drop i (take n l)) ≡ take m (drop i l)
front_part l n zero m h = take-take m n l (omega arith)
front_part l zero (suc i) m h = absurd (omega arith)
front_part [] (suc n) (suc i) m h = refl
front_part (x ∷ l) (suc n) (suc i) m h = front_part l n i m (omega arith)

-- what stands after p
behind : (p q : List ℕ) (n i : ℕ) → length p ≡ n → drop (n + i) (p ++ q) ≡ drop i q
behind p q n i e = rw (← e) (drop-append-add p q i)

-- a part of a part
pub part_part : (b : List ℕ) (at n i m : ℕ) → i + m ≤ n → part (part b at n) i m ≡ part b (at + i) m
unfolding part
part_part b at n i m h = front_part (drop at b) n i m h ∙ ap (take m) (drop-drop i at b)

-- a part of the first, or of the second, of two lists
pub part_left : (xs ys : List ℕ) (p n : ℕ) → p + n ≤ length xs → part (xs ++ ys) p n ≡ part xs p n
unfolding part
part_left xs ys p n h = ap (take n) (drop-append-le p xs ys (omega arith)) ∙ take-append-le n (drop p xs) ys (simp length-drop (omega arith))

pub part_right : (xs ys : List ℕ) (m i n : ℕ) → length xs ≡ m → part (xs ++ ys) (m + i) n ≡ part ys i n
unfolding part
part_right xs ys m i n e = ap (take n) (behind xs ys m i e)

pub part_whole : (xs : List ℕ) (n : ℕ) → length xs ≡ n → part xs 0 n ≡ xs
unfolding part
part_whole xs n e = rw (← e) (take-length xs)

-- ---- overlays
pub overlay_length : (b : List ℕ) (at : ℕ) (xs : List ℕ) → at + length xs ≤ length b → length (overlay b at xs) ≡ length b
unfolding overlay
overlay_length b at xs h = simp (length-append, length-take, length-drop) (omega arith)

pub bytes_length : (w n : ℕ) → length (bytes_of w n) ≡ w
unfolding bytes_of
bytes_length zero n = refl
bytes_length (suc w) n = ap suc (bytes_length w n)

module _ (b : List ℕ) (at : ℕ) (xs : List ℕ) (h : at + length xs ≤ length b) where
  front_length : length (take at b) ≡ at
  front_length = simp length-take (omega arith)

  head_length : length (take at b ++ xs) ≡ at + length xs
  head_length = simp (length-append, length-take) (omega arith)

  -- a part within what was laid over
  pub part_within : (i n : ℕ) → i + n ≤ length xs → part (overlay b at xs) (at + i) n ≡ part xs i n
  unfolding part overlay
  part_within i n k =
      let rest = drop (at + length xs) b in
      ap (λ (l : List ℕ). take n (drop (at + i) l)) (append_assoc (take at b) xs rest)
      ∙ ap (take n) (behind (take at b) (xs ++ rest) at i front_length ∙ drop-append-le i xs rest (omega arith))
      ∙ take-append-le n (drop i xs) rest (simp length-drop (omega arith))

  pub part_same : (n : ℕ) → length xs ≡ n → part (overlay b at xs) at n ≡ xs
  unfolding part
  part_same n e =
      ap (λ (q : ℕ). part (overlay b at xs) q n) (sym (add-zero at)) ∙ part_within 0 n (omega arith) ∙ part_whole xs n e

  -- a part before it
  pub part_before : (p n : ℕ) → p + n ≤ at → part (overlay b at xs) p n ≡ part b p n
  unfolding part overlay
  part_before p n k =
      let rest = drop (at + length xs) b in
      ap (λ (l : List ℕ). take n (drop p l)) (append_assoc (take at b) xs rest)
      ∙ ap (take n) (drop-append-le p (take at b) (xs ++ rest) (simp length-take (omega arith)))
      ∙ take-append-le n (drop p (take at b)) (xs ++ rest) (simp (length-drop, length-take) (omega arith))
      ∙ front_part b at p n k

  -- a part after it
  pub part_after : (p n : ℕ) → at + length xs ≤ p → part (overlay b at xs) p n ≡ part b p n
  unfolding part overlay
  part_after p n k =
      let j = p - (at + length xs) in
      let e : p ≡ at + length xs + j = omega arith in
      ap (take n) (ap (λ (q : ℕ). drop q (overlay b at xs)) e
      ∙ behind (take at b ++ xs) (drop (at + length xs) b) (at + length xs) j head_length
      ∙ drop-drop j (at + length xs) b
      ∙ ap (λ (q : ℕ). drop q b) (sym e))

  -- two overlays one after the other are one
  pub overlay_join : (ys : List ℕ) → overlay (overlay b at xs) (at + length xs) ys ≡ overlay b at (xs ++ ys)
  unfolding overlay
  overlay_join ys =
      let rest = drop (at + length xs) b in
      ap (λ (l : List ℕ). l ++ ys ++ drop (at + length xs + length ys) (overlay b at xs)) (take_at (take at b ++ xs) rest (at + length xs) head_length)
      ∙ ap (λ (l : List ℕ). take at b ++ xs ++ ys ++ l)
      (behind (take at b ++ xs) rest (at + length xs) (length ys) head_length ∙ drop-drop (length ys) (at + length xs) b)
      ∙ simp (append_assoc, length-append, add_assoc)

-- a store that has xs at a place, and then gets ys after them: one step of a run of writes
pub overlay_more : (b : List ℕ) (at : ℕ) (xs ys : List ℕ) (s s' : List ℕ) (n : ℕ) → at + n ≤ length b → length xs ≡ n
    → s ≡ overlay b at xs → s' ≡ overlay s (at + n) ys → s' ≡ overlay b at (xs ++ ys)
overlay_more b at xs ys s s' n h l p q =
    q ∙ ap (λ (z : List ℕ). overlay z (at + n) ys) p ∙ ap (λ (k : ℕ). overlay (overlay b at xs) (at + k) ys) (sym l) ∙ overlay_join b at xs (rw l h) ys

-- nothing laid over
pub overlay_none : (b : List ℕ) (at : ℕ) → overlay b at [] ≡ b
unfolding overlay
overlay_none b at = simp (append-nil, add-zero, take-append-drop)

-- one store
pub overlay_set : (b : List ℕ) (p x : ℕ) → p < length b → set b p x ≡ overlay b p (x ∷ [])
unfolding overlay
overlay_set b p x h = rw add-one (set_split b p x h ∙ sym (append_snoc (take p b) x (drop (suc p) b)))

-- a store that has xs at a place, and then gets the byte x after them: a turn of a loop that writes
pub overlay_step : (b : List ℕ) (at : ℕ) (xs s : List ℕ) (n x : ℕ) → at + n < length b → length xs ≡ n → s ≡ overlay b at xs
    → set s (at + n) x ≡ overlay b at (xs ++ (x ∷ []))
overlay_step b at xs s n x h l e =
    overlay_more b at xs (x ∷ []) s (set s (at + n) x) n (omega arith) l e
    (overlay_set s (at + n) x (rw e (rw (overlay_length b at xs (rw l (omega arith))) h)))

pub part_snoc : (b : List ℕ) (at n : ℕ) → at + n < length b → part b at (n + 1) ≡ part b at n ++ (get_or b (at + n) 0 ∷ [])
unfolding part
part_snoc b at n h = rw (add-one, take-suc (drop at b) n 0 (simp length-drop (omega arith)), get_or-drop)

-- ---- numbers
base_pos : (w : ℕ) → 0 < 256 ^ w
base_pos w = one-le-pow w 256 (lit< tt)

pub digits_bytes : (w acc n : ℕ) → digits acc (bytes_of w n) ≡ acc * 256 ^ w + n % 256 ^ w
unfolding digits bytes_of
digits_bytes zero acc n = omega arith
digits_bytes (suc w) acc n =
    digits_bytes w (acc * 256 + n / 256 ^ w % 256) n
    ∙ simp (pow-succ', mod-mul n {m = 256} {c = 256 ^ w} (lit< tt) (base_pos w), add-mul, mul_assoc) (omega arith)

-- a number that was written is read again
pub be_bytes : (w n : ℕ) → n < 256 ^ w → be_of (bytes_of w n) ≡ n
unfolding be_of
be_bytes w n h = digits_bytes w 0 n ∙ rw (mod-eq_of_lt h) (omega arith)

-- the number at a place, a byte at a time: what the reads of a function give
spelt : (b : List ℕ) (at w acc : ℕ) → at < length b → digits acc (part b at (suc w)) ≡ digits (acc * 256 + get_or b at 0) (part b (suc at) w)
unfolding digits
spelt b at w acc h = ap (digits acc) (part_cons b at w h)

pub be_2 : (b : List ℕ) (at : ℕ) → at + 2 ≤ length b → get_or b at 0 * 256 + get_or b (at + 1) 0 ≡ be_at b at 2
unfolding be_at be_of digits part
be_2 b at h = sym (spelt b at 1 0 (omega arith) ∙ spelt b (suc at) 0 (0 * 256 + get_or b at 0) (omega arith) ∙ simp towards_suc (omega arith))

-- what the stores of a function leave
pub stores_2 : (b : List ℕ) (at v : ℕ) → at + 2 ≤ length b → set (set b at (v / 256 % 256)) (at + 1) (v % 256) ≡ overlay b at (bytes_of 2 v)
unfolding overlay bytes_of
stores_2 b at v h = simp (towards_suc, div-one) (simp (towards_suc, div-one) at (sets-eq (bytes_of 2 v) b at h))

-- a number in two parts, at any widths
digits_append : (acc : ℕ) (xs ys : List ℕ) → digits acc (xs ++ ys) ≡ digits (digits acc xs) ys
unfolding digits
digits_append acc [] ys = refl
digits_append acc (x ∷ xs) ys = digits_append (acc * 256 + x) xs ys

digits_from : (acc : ℕ) (xs : List ℕ) → digits acc xs ≡ acc * 256 ^ length xs + digits 0 xs
unfolding digits
digits_from acc [] = omega arith
digits_from acc (x ∷ xs) =
    digits_from (acc * 256 + x) xs ∙ ap (λ (k : ℕ). (acc * 256 + x) * 256 ^ length xs + k) refl
    ∙ simp (pow-succ', add-mul, mul_assoc) (omega (arith, digits_from (0 * 256 + x) xs, digits_zero x (256 ^ length xs)))
  where
    digits_zero : (y p : ℕ) → (0 * 256 + y) * p ≡ y * p
    digits_zero y p = ap (λ (k : ℕ). k * p) (omega arith)

pub be_add : (b : List ℕ) (at m n : ℕ) → at + (m + n) ≤ length b → be_at b at (m + n) ≡ be_at b at m * 256 ^ n + be_at b (at + m) n
unfolding be_at be_of
be_add b at m n h =
    ap (digits 0) (part_add b at m n) ∙ digits_append 0 (part b at m) (part b (at + m) n) ∙ digits_from (digits 0 (part b at m)) (part b (at + m) n)
    ∙ rw (part_length b (at + m) n (omega arith))

-- the laws of get and put, stated once over the width
pub get_put : (b : List ℕ) (at w v : ℕ) → at + w ≤ length b → v < 256 ^ w → be_at (overlay b at (bytes_of w v)) at w ≡ v
unfolding be_at
get_put b at w v h k = ap be_of (part_same b at (bytes_of w v) (rw bytes_length h) w (bytes_length w v)) ∙ be_bytes w v k

pub be_part : (b : List ℕ) (at n i w : ℕ) → i + w ≤ n → be_at (part b at n) i w ≡ be_at b (at + i) w
unfolding be_at
be_part b at n i w h = ap be_of (part_part b at n i w h)

-- ---- comparing
same_refl : (xs : List ℕ) → same_bytes xs xs ≡ true
unfolding same_bytes
same_refl [] = refl
same_refl (x ∷ xs) = rw (eq-eqb x x refl) (same_refl xs)

same_head : (x y : ℕ) (t u : Bool) → eqb x y ≡ t → t && u ≡ true → (x ≡ y) × (u ≡ true)
same_head x y true u e q = (eqb-true x y e, q)
same_head x y false u e q = absurd (false_true q)
  where
    false_true : false ≡ true → ⊥
    false_true z = let w : ◌≡◌ {A = ℕ} 0 1 = cc in omega arith

pub same_eq : (xs ys : List ℕ) → same_bytes xs ys ≡ true → xs ≡ ys
unfolding same_bytes
same_eq [] [] e = refl
same_eq [] (y ∷ ys) e = let z : ◌≡◌ {A = ℕ} 0 1 = cc in absurd (omega arith)
same_eq (x ∷ xs) [] e = let z : ◌≡◌ {A = ℕ} 0 1 = cc in absurd (omega arith)
same_eq (x ∷ xs) (y ∷ ys) e =
    let p = same_head x y (eqb x y) (same_bytes xs ys) refl e in
    ap₂ (λ (a : ℕ) (l : List ℕ). a ∷ l) p.0 (same_eq xs ys p.1)

is_false : (t : Bool) → (t ≡ true → ⊥) → t ≡ false
is_false true f = absurd (f refl)
is_false false f = refl

pub same_yes : (xs ys : List ℕ) → xs ≡ ys → same_bytes xs ys ≡ true
same_yes xs ys e = rw e (same_refl ys)

pub same_no : (xs ys : List ℕ) → (xs ≡ ys → ⊥) → same_bytes xs ys ≡ false
same_no xs ys f = is_false (same_bytes xs ys) (λ e. f (same_eq xs ys e))

-- how many pairs are compared: of equal lists all, and at most all
pub pairs_equal : (xs ys : List ℕ) → xs ≡ ys → pairs xs ys ≡ length xs
unfolding pairs
pairs_equal xs ys e = ap (pairs xs) (sym e) ∙ own xs
  where
    own : (zs : List ℕ) → pairs zs zs ≡ length zs
    own [] = refl
    own (z ∷ zs) = rw (eq-eqb z z refl, own zs) (omega arith)

pub pairs_bound : (xs ys : List ℕ) → pairs xs ys ≤ length xs
unfolding pairs
pairs_bound [] ys = omega arith
pairs_bound (x ∷ xs) [] = omega arith
pairs_bound (x ∷ xs) (y ∷ ys) = let r = pairs_bound xs ys in let q = either (eqb x y) (pairs xs ys) in omega arith
  where
    either : (t : Bool) (n : ℕ) → cond t n 0 ≤ n
    either true n = omega arith
    either false n = omega arith

-- of lists that go on behind equal ones, or behind different ones of one length
pairs_behind : (us vs ws zs : List ℕ) → us ≡ vs → pairs (us ++ ws) (vs ++ zs) ≡ length us + pairs ws zs
unfolding pairs
pairs_behind us vs ws zs e = ap (λ (l : List ℕ). pairs (us ++ ws) (l ++ zs)) (sym e) ∙ own us
  where
    own : (l : List ℕ) → pairs (l ++ ws) (l ++ zs) ≡ length l + pairs ws zs
    own [] = omega arith
    own (x ∷ l) = rw (eq-eqb x x refl, own l) (omega arith)

pairs_before : (us vs ws zs : List ℕ) → length us ≡ length vs → same_bytes us vs ≡ false → pairs (us ++ ws) (vs ++ zs) ≡ pairs us vs
unfolding pairs same_bytes
pairs_before [] [] ws zs e f = let z : ◌≡◌ {A = ℕ} 0 1 = cc in absurd (omega arith)
pairs_before [] (v ∷ vs) ws zs e f = absurd (omega arith)
pairs_before (u ∷ us) [] ws zs e f = absurd (omega arith)
pairs_before (u ∷ us) (v ∷ vs) ws zs e f = from (eqb u v) f (λ g. pairs_before us vs ws zs (omega arith) g)
  where
    from : (t : Bool) → t && same_bytes us vs ≡ false → (same_bytes us vs ≡ false → pairs (us ++ ws) (vs ++ zs) ≡ pairs us vs)
        → 1 + cond t (pairs (us ++ ws) (vs ++ zs)) 0 ≡ 1 + cond t (pairs us vs) 0
    from true g rest = ap (λ (n : ℕ). 1 + n) (rest g)
    from false g rest = refl

-- what stands at an index of a part
pub get_d_part : (b : List ℕ) (at n i : ℕ) → i < n → get_or (part b at n) i 0 ≡ get_or b (at + i) 0
unfolding part
get_d_part b at n i h = get_or-take n (drop at b) i 0 h ∙ get_or-drop at b i 0

-- parts that are equal in their first i bytes, and differ in the k bytes behind these
pub first_difference : (a b : List ℕ) (at from len i k : ℕ) → at + len ≤ length a → from + len ≤ length b → i + k ≤ len → part a at i ≡ part b from i
    → same_bytes (part a (at + i) k) (part b (from + i) k) ≡ false
    → (same_bytes (part a at len) (part b from len) ≡ false)
    × (pairs (part a at len) (part b from len) ≡ i + pairs (part a (at + i) k) (part b (from + i) k))
first_difference a b at from len i k g h l e f =
    let us = part a (at + i) k in
    let vs = part b (from + i) k in
    let long : length us ≡ length vs = part_length a (at + i) k (omega arith) ∙ sym (part_length b (from + i) k (omega arith)) in (
      same_no _ _ (λ q. differ (same_yes us vs
          (sym (part_part a at len i k l) ∙ ap (λ (xs : List ℕ). part xs i k) q ∙ part_part b from len i k l))),
      ap₂ pairs (split a at) (split b from)
          ∙ pairs_behind (part a at i) (part b from i) _ _ e
          ∙ ap₂ (λ (x y : ℕ). x + y) (part_length a at i (omega arith)) (pairs_before us vs _ _ long f),
    )
  where
    differ : same_bytes (part a (at + i) k) (part b (from + i) k) ≡ true → ⊥
    differ t = let z : ◌≡◌ {A = ℕ} 0 1 = cc in omega arith

    split : (c : List ℕ) (p : ℕ) → part c p len ≡ part c p i ++ (part c (p + i) k ++ part c (p + i + k) (len - (i + k)))
    split c p =
        let e : len ≡ i + (k + (len - (i + k))) = omega arith in
        ap (part c p) e ∙ part_add c p i (k + (len - (i + k))) ∙ ap (λ (xs : List ℕ). part c p i ++ xs) (part_add c (p + i) k (len - (i + k)))

-- parts that are equal in their first i bytes, and in the k bytes behind these
pub equal_further : (a b : List ℕ) (at from i k : ℕ) → part a at i ≡ part b from i → same_bytes (part a (at + i) k) (part b (from + i) k) ≡ true
    → part a at (i + k) ≡ part b from (i + k)
equal_further a b at from i k e f =
    part_add a at i k ∙ ap₂ (λ (xs ys : List ℕ). xs ++ ys) e (same_eq _ _ f) ∙ sym (part_add b from i k)

-- parts of two lists of one length with the same bytes there
pub same_part : (s t : List ℕ) → length t ≡ length s → (at n : ℕ)
    → ((i : ℕ) → at ≤ i → i < at + n → get_or t i 0 ≡ get_or s i 0) → part t at n ≡ part s at n
unfolding part
same_part s t e at n f =
    ext_get_or 0 (part t at n) (part s at n) (simp (length-take, length-drop) (rw e)) (λ k (b : k < length (part t at n)).
    let l : k < n = omega (arith, short k b) in
    get_d_part t at n k l ∙ f (at + k) (omega arith) (omega arith) ∙ sym (get_d_part s at n k l))
  where
    short : (k : ℕ) → k < length (part t at n) → k < n
    short k b = let z : length (part t at n) ≤ n = simp length-take (omega arith) in omega arith
