-- The laws of name records: what was written is read again, and a write elsewhere leaves a record as it was. Assumes nothing.
use mathlib.Core.Logic.{◌⊎◌}
use mathlib.Core.Path.{◌≡◌, refl, sym, ap, ◌∙◌}
use mathlib.Core.List.{List, ◌++◌}
use Prim.Native.Nat.{ℕ, ◌+◌, ◌-◌, ◌^◌, ◌≤◌, ◌<◌}
use native.Mathlib.Omega.{arith}
use native.Mathlib.Nat.{add-zero}
use lib.Dec.{lit≤}
use lib.ListN.{length, replicate, length-append, length-replicate}
use Rattle.kinds.specs.Layout.{name_record_length, objects_head, child_offset, length_offset, text_offset}
use Rattle.kinds.specs.Numbers.{most_name_bytes}
use Rattle.spec.specs.Bytes.{part, overlay, be_at, bytes_of}
use Rattle.spec.specs.Image.{Store, objects, name_start, Name, name_from, name_bytes, name_at, name_length, put_name}
use Rattle.laws.proofs.Bytes.{bytes_length, be_part, part_part, part_same, part_right, part_left, part_whole, be_bytes}
use Rattle.laws.proofs.Apart.{Apart, part_apart, be_apart}

-- a value whose numbers and text fit their places
pub record FitsName (v : Name) : Type 0 where
  pub directory : v.directory < 2 ^ 32
  pub child : v.child < 2 ^ 32
  pub text : length v.text ≤ most_name_bytes

-- record n means the same in both stores
pub record SameName (s s' : Store) (n : ℕ) : Type 0 where
  pub all : name_at s' n ≡ name_at s n
  pub long : name_length s' n ≡ name_length s n

pub name_length_lem : (v : Name) → length v.text ≤ most_name_bytes → length (name_bytes v) ≡ name_record_length
unfolding name_bytes
name_length_lem v h = simp (length-append, bytes_length, length-replicate) (omega arith)

-- ---- a name record is read off its own bytes, as many as its length says
name_part : (b : List ℕ) (at n : ℕ) → text_offset + be_at b (at + length_offset) 4 ≤ n → name_from b at ≡ name_from (part b at n) 0
unfolding name_from
name_part b at n h =
    let e = be_part b at n 8 4 (omega arith) in
    sym (cc (
      be_part b at n 0 4 (omega arith),
      add-zero at,
      be_part b at n child_offset 4 (omega arith),
      e,
      part_part b at n text_offset (be_at (part b at n) length_offset 4) (omega arith),
    ))

pub length_by_part : (b b' : List ℕ) (at n : ℕ) → text_offset ≤ n → part b' at n ≡ part b at n → be_at b' (at + length_offset) 4 ≡ be_at b (at + length_offset) 4
length_by_part b b' at n h e = sym (be_part b' at n 8 4 (omega arith)) ∙ ap (λ (x : List ℕ). be_at x 8 4) e ∙ be_part b at n 8 4 (omega arith)

pub name_by_part : (b b' : List ℕ) (at n : ℕ) → text_offset + be_at b (at + length_offset) 4 ≤ n → part b' at n ≡ part b at n → name_from b' at ≡ name_from b at
name_by_part b b' at n h e =
    let q = length_by_part b b' at n (omega arith) e in
    name_part b' at n (omega arith) ∙ ap (λ (x : List ℕ). name_from x 0) e ∙ sym (name_part b at n h)

-- ---- what was written is read again
length_again : (v : Name) → FitsName v → be_at (name_bytes v) 8 4 ≡ length v.text
unfolding name_bytes bytes_of be_at part
length_again v f = be_bytes 4 (length v.text) (omega arith)

name_again : (v : Name) → FitsName v → name_from (name_bytes v) 0 ≡ v
unfolding name_from name_bytes bytes_of be_at part
name_again v f =
    let n = length v.text in
    let e : be_at (name_bytes v) 8 4 ≡ n = be_bytes 4 n (omega arith) in
    λ i. record {
      directory = be_bytes 4 v.directory f.directory i;
      child = be_bytes 4 v.child f.child i;
      text = (ap (part (name_bytes v) text_offset) e ∙ text_again v.directory v.child v.text) i;
    }
  where
    text_again : (d c : ℕ) (t : List ℕ)
        → part (bytes_of 4 d ++ bytes_of 4 c ++ bytes_of 4 (length t) ++ t ++ replicate (most_name_bytes - length t) 0) text_offset (length t) ≡ t
    text_again d c t =
        part_left (bytes_of 4 d ++ bytes_of 4 c ++ bytes_of 4 (length t) ++ t) (replicate (most_name_bytes - length t) 0) text_offset (length t) (omega arith)
        ∙ part_right (bytes_of 4 d ++ bytes_of 4 c ++ bytes_of 4 (length t)) t text_offset 0 (length t) refl ∙ part_whole t (length t) refl

-- the count of objects stays where nothing is written before the records
pub objects_apart : (s : Store) (at : ℕ) (xs : List ℕ) → at + length xs ≤ length s → objects_head ≤ at → objects (overlay s at xs) ≡ objects s
unfolding objects
objects_apart s at xs h l = be_apart s at xs h 8 4 (◌⊎◌.inl l)

module _ (s : Store) (n : ℕ) (v : Name) (h : name_start s n + name_record_length ≤ length s) (f : FitsName v) where
  fits : name_start s n + length (name_bytes v) ≤ length s
  fits = rw (name_length_lem v f.text) h

  objects_same : objects (put_name s n v) ≡ objects s
  unfolding put_name
  objects_same = objects_apart s (name_start s n) (name_bytes v) fits (omega arith)

  pub bytes_same : part (put_name s n v) (name_start s n) name_record_length ≡ name_bytes v
  unfolding put_name
  bytes_same = part_same s (name_start s n) (name_bytes v) fits name_record_length (name_length_lem v f.text)

  length_same : be_at (put_name s n v) (name_start s n + length_offset) 4 ≡ length v.text
  length_same = sym (be_part (put_name s n v) (name_start s n) name_record_length 8 4 (lit≤ tt)) ∙ ap (λ (x : List ℕ). be_at x 8 4) bytes_same ∙ length_again v f

  pub name_length_same : name_length (put_name s n v) n ≡ length v.text
  unfolding name_length
  name_length_same = rw objects_same length_same

  pub name_at_same : name_at (put_name s n v) n ≡ v
  unfolding name_at
  name_at_same =
      rw objects_same
      (name_part (put_name s n v) (name_start s n) name_record_length (rw length_same (omega (arith, f.text))) ∙ ap (λ (x : List ℕ). name_from x 0)
      bytes_same ∙ name_again v f)

-- ---- what is written after the count of objects and apart from a record leaves it as it was
pub name_apart : (s : Store) (at : ℕ) (xs : List ℕ) → at + length xs ≤ length s → objects_head ≤ at
    → (n : ℕ) → Apart at (length xs) (name_start s n) (text_offset + name_length s n) → SameName s (overlay s at xs) n
unfolding name_at name_length
name_apart s at xs h l n d =
    let e : objects (overlay s at xs) ≡ objects s = objects_apart s at xs h l in
    let p = part_apart s at xs h (name_start s n) (text_offset + be_at s (name_start s n + length_offset) 4) d in
    record {
      all = rw e (name_by_part s (overlay s at xs) (name_start s n) (text_offset + be_at s (name_start s n + length_offset) 4) (omega arith) p);
      long = rw e (length_by_part s (overlay s at xs) (name_start s n) (text_offset + be_at s (name_start s n + length_offset) 4) (omega arith) p);
    }
