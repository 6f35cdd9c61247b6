-- What each of the three writes leaves as it was: that of an object record, of a name record, and into the blocks. Assumes nothing.
use mathlib.Core.Path.{◌≡◌}
use mathlib.Core.Logic.{◌≢◌, ⊎_elim, ◌⊎◌}
use mathlib.Core.List.{List}
use Prim.Native.Nat.{ℕ, ◌+◌, ◌≤◌, ◌<◌}
use native.Mathlib.Omega.{arith}
use lib.ListN.{length}
use Rattle.kinds.specs.Numbers.{most_name_bytes}
use Rattle.kinds.specs.declared.object.Object.{Object}
use Rattle.spec.specs.Bytes.{part, overlay}
use Rattle.spec.specs.Image.{Store, objects, names, object_start, name_start, block_start, object_bytes, object_at, put_object, Name, name_bytes, name_length, put_name}
use Rattle.laws.proofs.Bytes.{lt_or_le}
use Rattle.laws.proofs.Apart.{Apart, part_apart}
use Rattle.laws.proofs.Records.{object_length_lem, object_at_apart, object_at_other}
use Rattle.laws.proofs.Names.{SameName, name_length_lem, name_apart}
use Rattle.laws.proofs.Shape.{SameShape, same_overlay}

-- object o was written
pub record ObjectWritten (s : Store) (o : ℕ) (s' : Store) : Type 0 where
  pub shape : SameShape s s'
  pub objects : (i : ℕ) → i ≢ o → object_at s' i ≡ object_at s i
  pub names : (n : ℕ) → SameName s s' n
  pub blocks : (at n : ℕ) → block_start s 0 ≤ at → part s' at n ≡ part s at n

-- name record n was written
pub record NameWritten (s : Store) (n : ℕ) (s' : Store) : Type 0 where
  pub shape : SameShape s s'
  pub objects : (o : ℕ) → o < objects s → object_at s' o ≡ object_at s o
  pub names : (m : ℕ) → m ≢ n → name_length s m ≤ most_name_bytes → SameName s s' m
  pub blocks : (at k : ℕ) → block_start s 0 ≤ at → part s' at k ≡ part s at k

-- the m bytes from at, among the blocks, were written
pub record BlocksWritten (s : Store) (at m : ℕ) (s' : Store) : Type 0 where
  pub shape : SameShape s s'
  pub objects : (o : ℕ) → o < objects s → object_at s' o ≡ object_at s o
  pub names : (n : ℕ) → n < names s → name_length s n ≤ most_name_bytes → SameName s s' n
  pub blocks : (p k : ℕ) → Apart at m p k → part s' p k ≡ part s p k

pub object_written : (s : Store) (o : ℕ) (v : Object) → block_start s 0 ≤ length s → o < objects s → ObjectWritten s o (put_object s o v)
unfolding put_object
object_written s o v h l =
    let at = object_start o in
    let xs = object_bytes v in
    let e = object_length_lem v in
    let k : at + length xs ≤ length s = omega arith in
    record {
      shape = same_overlay s at xs k (omega arith) (◌⊎◌.inr (omega arith)) (◌⊎◌.inr (omega arith));
      objects = object_at_other s o v (omega arith);
      names = λ n. name_apart s at xs k (omega arith) n (◌⊎◌.inr (omega arith));
      blocks = λ p n (b : block_start s 0 ≤ p). part_apart s at xs k p n (◌⊎◌.inr (omega arith));
    }

pub name_written : (s : Store) (n : ℕ) (v : Name) → block_start s 0 ≤ length s → n < names s → length v.text ≤ most_name_bytes → NameWritten s n (put_name s n v)
unfolding put_name
name_written s n v h l f =
    let at = name_start s n in
    let xs = name_bytes v in
    let e = name_length_lem v f in
    let k : at + length xs ≤ length s = omega arith in
    record {
      shape = same_overlay s at xs k (omega arith) (◌⊎◌.inl (omega arith)) (◌⊎◌.inr (omega arith));
      objects = λ o (b : o < objects s). object_at_apart s at xs k o (◌⊎◌.inl (omega arith));
      names = λ m (d : m ≢ n) (b : name_length s m ≤ most_name_bytes). name_apart s at xs k (omega arith) m
          (⊎_elim (λ (q : m < n). ◌⊎◌.inl (omega arith)) (λ (q : n ≤ m). ◌⊎◌.inr (omega arith)) (lt_or_le m n));
      blocks = λ p i (b : block_start s 0 ≤ p). part_apart s at xs k p i (◌⊎◌.inr (omega arith));
    }

pub blocks_written : (s : Store) (at : ℕ) (xs : List ℕ) → block_start s 0 ≤ at → at + length xs ≤ length s
    → BlocksWritten s at (length xs) (overlay s at xs)
blocks_written s at xs b k =
    record {
      shape = same_overlay s at xs k (omega arith) (◌⊎◌.inl (omega arith)) (◌⊎◌.inl (omega arith));
      objects = λ o (l : o < objects s). object_at_apart s at xs k o (◌⊎◌.inl (omega arith));
      names = λ n (l : n < names s) (f : name_length s n ≤ most_name_bytes). name_apart s at xs k (omega arith) n (◌⊎◌.inl (omega arith));
      blocks = part_apart s at xs k;
    }
