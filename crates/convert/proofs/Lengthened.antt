-- The bytes that the converter writes, as far as they are written. Assumes nothing.
use mathlib.Core.Path.{◌≡◌, refl, sym, ap, ap₂, ◌∙◌}
use mathlib.Core.List.{List, [], ◌++◌, append_assoc, append-nil}
use Prim.Native.Nat.{ℕ, suc, ◌+◌, ◌*◌, ◌-◌, ◌≤◌, ◌<◌}
use native.Mathlib.Numerals.{add-one}
use native.Mathlib.Omega.{arith}
use lib.ListN.{length, take, drop, length-append, length-take}
use lib.Seq.{take_at, drop-length}
use Rattle.kinds.specs.Layout.{objects_head, object_length, old_object_length}
use Rattle.spec.specs.Bytes.{part, overlay, zeros}
use Rattle.spec.specs.Image.{objects, object_start}
use Rattle.spec.specs.Convert.{old_start, lengthened, converted}
use Rattle.laws.proofs.Bytes.{part_length, part_add, part_left, part_right, part_whole, overlay_length}

-- the head and the first o records are written into a buffer of n bytes
pub record Begun (old : List ℕ) (n p : ℕ) (store : List ℕ) (o : ℕ) : Type 0 where
  pub some : o ≤ p
  pub long : length store ≡ n
  pub front : take (object_start o) store ≡ part old 0 objects_head ++ lengthened old o

-- one write more
grown : (s s' front ys : List ℕ) (at n : ℕ) → at ≤ length s → length ys ≡ n → take at s ≡ front → s' ≡ overlay s at ys → take (at + n) s' ≡ front ++ ys
unfolding overlay
grown s s' front ys at n h l e f =
    let m : length (take at s ++ ys) ≡ at + n = simp (length-append, length-take) (omega arith) in
    ap (take (at + n)) f ∙ take_at (take at s ++ ys) (drop (at + length ys) s) (at + n) m ∙ ap (λ (x : List ℕ). x ++ ys) e

-- the first bytes of two lists, past the first of them
first_of : (xs ys : List ℕ) (m n : ℕ) → length xs ≡ m → part (xs ++ ys) 0 (m + n) ≡ xs ++ part ys 0 n
first_of xs ys m n e =
    let z : 0 + m ≡ m + 0 = omega arith in
    part_add (xs ++ ys) 0 m n
    ∙ ap₂ (λ (a b : List ℕ). a ++ b) (part_left xs ys 0 m (omega arith) ∙ part_whole xs m e)
    (ap (λ (i : ℕ). part (xs ++ ys) i n) z ∙ part_right xs ys m 0 n e)

part_drop : (b : List ℕ) (i w : ℕ) → part (drop i b) 0 w ≡ part b i w
unfolding part
part_drop b i w = refl

module _ (old : List ℕ) (n p : ℕ) (h : old_start p ≤ length old) (k : object_start p ≤ n) where
  pub begin : (s s' : List ℕ) → length s ≡ n → s' ≡ overlay s 0 (part old 0 objects_head) → Begun old n p s' 0
  unfolding lengthened
  begin s s' l e =
      let m = part_length old 0 objects_head (omega arith) in
      record {
        some = omega arith;
        long = rw (e, overlay_length s 0 (part old 0 objects_head) (omega arith)) l;
        front = grown s s' [] (part old 0 objects_head) 0 objects_head (omega arith) m refl e ∙ sym (append-nil (part old 0 objects_head));
      }

  pub next : (s s₁ s₂ : List ℕ) (o at from : ℕ) → Begun old n p s o → o < p → at ≡ object_start o → from ≡ old_start o
      → s₁ ≡ overlay s at (part old from old_object_length) → s₂ ≡ overlay s₁ (at + old_object_length) (zeros (object_length - old_object_length))
      → Begun old n p s₂ (o + 1)
  unfolding lengthened
  next s s₁ s₂ o at from b l a f e₁ e₂ =
      let m : length (part old from old_object_length) ≡ old_object_length = part_length old from old_object_length (omega arith) in
      let l₁ : length s₁ ≡ length s = ap length e₁ ∙ overlay_length s at (part old from old_object_length) (omega (arith, b.long)) in
      let l₂ : length s₂ ≡ length s₁ =
      ap length e₂ ∙ overlay_length s₁ (at + old_object_length) (zeros (object_length - old_object_length)) (omega (arith, b.long)) in
      let g₁ = grown s s₁ (part old 0 objects_head ++ lengthened old o) (part old from old_object_length) at old_object_length (omega (arith, b.long)) m
      (rw a b.front) e₁ in
      let g₂ = grown s₁ s₂ (part old 0 objects_head ++ lengthened old o ++ part old from old_object_length) (zeros (object_length - old_object_length))
      (at + old_object_length) (object_length - old_object_length) (omega (arith, b.long)) refl g₁ e₂ in
      let w : object_start (suc o) ≡ at + old_object_length + (object_length - old_object_length) = omega arith in
      record {
        some = omega arith;
        long = omega (arith, b.long);
        front = rw (add-one, w) (g₂ ∙ rw f (simp append_assoc));
      }

  -- the last write
  pub finish : (s s' : List ℕ) (o at from m : ℕ) → Begun old n p s o → p ≤ o → p ≡ objects old → n + old_object_length * p ≤ length old + object_length * p
      → at ≡ object_start p → from ≡ old_start p → m ≡ n - at → s' ≡ overlay s at (part old from m) → s' ≡ part (converted old) 0 n
  unfolding converted overlay
  finish s s' o at from m b l e d a f z g =
      let front = part old 0 objects_head ++ lengthened old (objects old) in
      let rest = part old from m in
      let t : length rest ≡ m = part_length old from m (omega arith) in
      let q : o ≡ objects old = omega (arith, b.some) in
      let i : at ≡ object_start o = omega (arith, b.some) in
      let j : from ≡ old_start (objects old) = omega arith in
      let begun : take at s ≡ front = rw (i, ← q) b.front in
      let long : length front ≡ at = ap length (sym begun) ∙ simp length-take (omega (arith, b.long)) in
      let full : at + length rest ≡ length s = omega (arith, b.long) in
      let none : drop (at + length rest) s ≡ [] = ap (λ (x : ℕ). drop x s) full ∙ drop-length s in
      let behind : part (drop (old_start (objects old)) old) 0 m ≡ rest = part_drop old (old_start (objects old)) m ∙ ap (λ (x : ℕ). part old x m) (sym j) in
      let whole : n ≡ at + m = omega arith in
      g ∙ rw (none, begun) (append-nil (front ++ rest))
      ∙ sym (ap (part (converted old) 0) whole ∙ first_of front (drop (old_start (objects old)) old) at m long ∙ ap (λ (x : List ℕ). front ++ x) behind)
