-- What an edit of the store leaves as it was: the shape, and every record that is not written. Assumes nothing.
use mathlib.Core.Path.{◌≡◌, refl, sym, ap, ◌∙◌}
use mathlib.Core.Logic.{◌≢◌, ⊎_elim, by_cases, ◌⊎◌}
use mathlib.Core.List.{List, ◌++◌}
use Prim.Native.Nat.{ℕ, ◌+◌, ◌-◌, ◌≤◌, ◌<◌}
use native.Mathlib.Omega.{arith}
use native.Mathlib.Nat.{add-zero, add_assoc}
use native.Mathlib.Decide.{ℕ_discrete}
use lib.ListN.{length, length-append, length-replicate}
use Rattle.kinds.specs.Layout.{name_record_length, length_offset, text_offset}
use Rattle.kinds.specs.Numbers.{most_name_bytes}
use Rattle.kinds.specs.declared.object.Object.{Object}
use Rattle.spec.specs.Bytes.{part, overlay, be_at, bytes_of, zeros}
use Rattle.spec.specs.Image.{Store, objects, names, object_start, name_start, block_start, object_at, put_object, Name, name_bytes, name_at, name_length, put_name}
use Rattle.laws.proofs.Bytes.{lt_or_le, bytes_length, part_part, part_right, part_whole}
use Rattle.laws.proofs.Apart.{part_apart}
use Rattle.laws.proofs.Names.{FitsName, name_length_lem, name_by_part, length_by_part, bytes_same, name_at_same, name_length_same}
use Rattle.laws.proofs.Range.{Below, below_overlay}
use Rattle.laws.proofs.RecordRange.{below_put_object, below_put_name}
use Rattle.laws.proofs.Records.{FitsObject, object_length_lem, object_at_same}
use Rattle.laws.proofs.Shape.{SameShape, same_refl, same_trans}
use Rattle.laws.proofs.Valid.{Shaped, Padded, GoodNameRecord, Valid}
use Rattle.laws.proofs.Writes.{object_written, name_written, blocks_written}

-- a store of bytes whose counts and length agree, and in which no name record states more than 32 bytes
pub record Sound (s : Store) : Type 0 where
  pub shaped : Shaped s
  pub bytes : Below 256 s
  pub short : (n : ℕ) → n < names s → name_length s n ≤ most_name_bytes

-- name record n means the same in both stores, and is padded in the second where it is in the first
pub record NameKept (s t : Store) (n : ℕ) : Type 0 where
  pub all : name_at t n ≡ name_at s n
  pub long : name_length t n ≡ name_length s n
  pub padded : Padded s n → Padded t n

-- no record was written
pub record RecordsKept (s t : Store) : Type 0 where
  pub shape : SameShape s t
  pub sound : Sound t
  pub each_object : (i : ℕ) → i < objects s → object_at t i ≡ object_at s i
  pub each_name : (m : ℕ) → m < names s → NameKept s t m

-- object o is v now; no other record was written
pub record ObjectSet (s : Store) (o : ℕ) (v : Object) (t : Store) : Type 0 where
  pub shape : SameShape s t
  pub sound : Sound t
  pub object : object_at t o ≡ v
  pub other_objects : (i : ℕ) → i < objects s → i ≢ o → object_at t i ≡ object_at s i
  pub each_name : (m : ℕ) → m < names s → NameKept s t m

-- name record n is x now
pub record NameIs (t : Store) (n : ℕ) (x : Name) : Type 0 where
  pub all : name_at t n ≡ x
  pub long : name_length t n ≡ length x.text
  pub padded : Padded t n

-- name record n is x now; no other record was written
pub record NameSet (s : Store) (n : ℕ) (x : Name) (t : Store) : Type 0 where
  pub shape : SameShape s t
  pub sound : Sound t
  pub each_object : (i : ℕ) → i < objects s → object_at t i ≡ object_at s i
  pub name : NameIs t n x
  pub other_names : (m : ℕ) → m < names s → m ≢ n → NameKept s t m

-- object o is v and name record n is x now; no other record was written
pub record BothSet (s : Store) (o : ℕ) (v : Object) (n : ℕ) (x : Name) (t : Store) : Type 0 where
  pub shape : SameShape s t
  pub sound : Sound t
  pub object : object_at t o ≡ v
  pub other_objects : (i : ℕ) → i < objects s → i ≢ o → object_at t i ≡ object_at s i
  pub name : NameIs t n x
  pub other_names : (m : ℕ) → m < names s → m ≢ n → NameKept s t m

-- ---- the shape
pub shaped_same : (s t : Store) → SameShape s t → Shaped s → Shaped t
shaped_same s t e h =
    record {
      volume = omega arith;
      some_object = omega arith;
      few_objects = omega arith;
      few_names = omega arith;
      few_blocks = omega arith;
      exact = omega arith;
    }

pub good_short : (s : Store) (n : ℕ) → GoodNameRecord s n → name_length s n ≤ most_name_bytes
good_short s n (◌⊎◌.inl f) = omega (arith, f.empty)
good_short s n (◌⊎◌.inr u) = u.short

pub valid_sound : (s : Store) → Valid s → Below 256 s → Sound s
valid_sound s v b = record { shaped = v.shaped; bytes = b; short = λ n l. good_short s n (v.good_names n l) }

-- ---- a name record whose 44 bytes are the same
pub kept_by_bytes : (s t : Store) (n : ℕ) → objects t ≡ objects s → name_length s n ≤ most_name_bytes
    → part t (name_start s n) name_record_length ≡ part s (name_start s n) name_record_length → NameKept s t n
unfolding name_at name_length
kept_by_bytes s t n e l b =
    let at = name_start s n in
    let w = length_by_part s t at name_record_length (omega arith) b in
    let k = be_at s (at + length_offset) 4 in
    record {
      all = rw e (name_by_part s t at name_record_length (omega arith) b);
      long = rw e w;
      padded = λ z. rw (e, w) (rw (add_assoc at text_offset k)
          (sym (part_part t at name_record_length (text_offset + k) (most_name_bytes - k) (omega arith))
          ∙ ap (λ (x : List ℕ). part x (text_offset + k) (most_name_bytes - k)) b ∙ part_part s at
          name_record_length (text_offset + k) (most_name_bytes - k) (omega arith) ∙ (rw (add_assoc at text_offset k) at z)));
    }

sound_of : (s t : Store) → Sound s → SameShape s t → Below 256 t → ((m : ℕ) → m < names s → name_length t m ≤ most_name_bytes) → Sound t
sound_of s t h e b f =
    record { shaped = shaped_same s t e h.shaped; bytes = b; short = λ m (l : m < names t). f m (omega (arith, e.names)) }

-- ---- the three writes
pub put_object_lem : (s : Store) (o : ℕ) (v : Object) → Sound s → o < objects s → FitsObject v → ObjectSet s o v (put_object s o v)
unfolding put_object
put_object_lem s o v h l f =
    let t = put_object s o v in
    let w = h.shaped in
    let k : block_start s 0 ≤ length s = omega arith in
    let q = object_written s o v k l in
    let z = object_length_lem v in
    let bytes : (m : ℕ) → m < names s → part t (name_start s m) name_record_length ≡ part s (name_start s m) name_record_length = λ m (b : m < names s).
    part_apart s (object_start o) _ (omega arith) (name_start s m) name_record_length (◌⊎◌.inr (omega arith)) in
    let kept : (m : ℕ) → m < names s → NameKept s t m = λ m b. kept_by_bytes s t m q.shape.objects (h.short m b) (bytes m b) in
    record {
      shape = q.shape;
      sound = sound_of s t h q.shape (below_put_object s o v h.bytes) (λ m b. omega (arith, (kept m b).long, h.short m b));
      object = object_at_same s o v (omega arith) f;
      other_objects = λ i _ d. q.objects i d;
      each_name = kept;
    }

-- the bytes after a name that was written
name_padded : (x : Name) → length x.text ≤ most_name_bytes
    → part (name_bytes x) (text_offset + length x.text) (most_name_bytes - length x.text) ≡ zeros (most_name_bytes - length x.text)
unfolding name_bytes
name_padded x h =
    let k = length x.text in
    let front = bytes_of 4 x.directory ++ bytes_of 4 x.child ++ bytes_of 4 k ++ x.text in
    let z = zeros (most_name_bytes - k) in
    ap (λ (i : ℕ). part (front ++ z) i (most_name_bytes - k)) (sym (add-zero (text_offset + k)))
    ∙ part_right front z (text_offset + k) 0 (most_name_bytes - k) (simp (length-append, bytes_length) (omega arith))
    ∙ part_whole z (most_name_bytes - k) (length-replicate (most_name_bytes - k) 0)

pub put_name_lem : (s : Store) (n : ℕ) (x : Name) → Sound s → n < names s → FitsName x → Below 256 x.text → NameSet s n x (put_name s n x)
unfolding put_name
put_name_lem s n x h l f g =
    let t = put_name s n x in
    let w = h.shaped in
    let k : block_start s 0 ≤ length s = omega arith in
    let fits : name_start s n + name_record_length ≤ length s = omega arith in
    let q = name_written s n x k l f.text in
    let z = name_length_lem x f.text in
    let c = length x.text in
    let bytes : (m : ℕ) → m < names s → m ≢ n → part t (name_start s m) name_record_length ≡ part s (name_start s m) name_record_length =
    λ m (b : m < names s) (d : m ≢ n).
    part_apart s (name_start s n) (name_bytes x) (omega arith) (name_start s m) name_record_length
    (⊎_elim (λ (a : m < n). ◌⊎◌.inl (omega arith)) (λ (a : n ≤ m). ◌⊎◌.inr (omega arith)) (lt_or_le m n)) in
    let kept : (m : ℕ) → m < names s → m ≢ n → NameKept s t m = λ m b d. kept_by_bytes s t m q.shape.objects (h.short m b) (bytes m b d) in
    let long = name_length_same s n x fits f in
    record {
      shape = q.shape;
      sound = sound_of s t h q.shape (below_put_name s n x h.bytes g) (λ m b.
          by_cases (ℕ_discrete m n) (λ e. rw e (omega (arith, long, f.text))) (λ d. omega (arith, (kept m b d).long, h.short m b)));
      each_object = q.objects;
      name = record {
        all = name_at_same s n x fits f;
        long = long;
        padded = rw (q.shape.objects, long) (rw (add_assoc (name_start s n) text_offset c)
            (sym (part_part t (name_start s n) name_record_length (text_offset + c) (most_name_bytes - c) (omega (arith, f.text)))
            ∙ ap (λ (y : List ℕ). part y (text_offset + c) (most_name_bytes - c)) (bytes_same s n x fits f) ∙ name_padded x f.text));
      };
      other_names = kept;
    }

-- bytes among the blocks
pub put_bytes : (s : Store) (at : ℕ) (xs : List ℕ) → Sound s → block_start s 0 ≤ at → at + length xs ≤ length s → Below 256 xs → RecordsKept s (overlay s at xs)
put_bytes s at xs h b k g =
    let t = overlay s at xs in
    let q = blocks_written s at xs b k in
    let bytes : (m : ℕ) → m < names s → part t (name_start s m) name_record_length ≡ part s (name_start s m) name_record_length = λ m (c : m < names s).
    part_apart s at xs k (name_start s m) name_record_length (◌⊎◌.inl (omega arith)) in
    let kept : (m : ℕ) → m < names s → NameKept s t m = λ m c. kept_by_bytes s t m q.shape.objects (h.short m c) (bytes m c) in
    record {
      shape = q.shape;
      sound = sound_of s t h q.shape (below_overlay s at xs h.bytes g) (λ m c. omega (arith, (kept m c).long, h.short m c));
      each_object = q.objects;
      each_name = kept;
    }

-- ---- edits one after the other
name_kept_refl : (s : Store) (n : ℕ) → NameKept s s n
name_kept_refl s n = record { all = refl; long = refl; padded = λ z. z }

name_kept_trans : (s t u : Store) (n : ℕ) → NameKept s t n → NameKept t u n → NameKept s u n
name_kept_trans s t u n a b = record { all = b.all ∙ a.all; long = b.long ∙ a.long; padded = λ z. b.padded (a.padded z) }

pub kept_refl : (s : Store) → Sound s → RecordsKept s s
kept_refl s h = record { shape = same_refl s; sound = h; each_object = λ i _. refl; each_name = λ m _. name_kept_refl s m }

pub kept_trans : (s t u : Store) → RecordsKept s t → RecordsKept t u → RecordsKept s u
kept_trans s t u a b =
    record {
      shape = same_trans s t u a.shape b.shape;
      sound = b.sound;
      each_object = λ i l. b.each_object i (rw a.shape.objects l) ∙ a.each_object i l;
      each_name = λ m l. name_kept_trans s t u m (a.each_name m l) (b.each_name m (rw a.shape.names l));
    }

-- an object is set where no record was written before
pub kept_object : (s t u : Store) (o : ℕ) (v : Object) → RecordsKept s t → ObjectSet t o v u → ObjectSet s o v u
kept_object s t u o v a b =
    record {
      shape = same_trans s t u a.shape b.shape;
      sound = b.sound;
      object = b.object;
      other_objects = λ i l d. b.other_objects i (rw a.shape.objects l) d ∙ a.each_object i l;
      each_name = λ m l. name_kept_trans s t u m (a.each_name m l) (b.each_name m (rw a.shape.names l));
    }

-- no record is written where an object was set before
pub object_kept : (s t u : Store) (o : ℕ) (v : Object) → o < objects s → ObjectSet s o v t → RecordsKept t u → ObjectSet s o v u
object_kept s t u o v h a b =
    record {
      shape = same_trans s t u a.shape b.shape;
      sound = b.sound;
      object = b.each_object o (rw a.shape.objects h) ∙ a.object;
      other_objects = λ i l d. b.each_object i (rw a.shape.objects l) ∙ a.other_objects i l d;
      each_name = λ m l. name_kept_trans s t u m (a.each_name m l) (b.each_name m (rw a.shape.names l));
    }

-- an object is set, and then a name record
pub object_name : (s t u : Store) (o : ℕ) (v : Object) (n : ℕ) (x : Name) → o < objects s → ObjectSet s o v t → NameSet t n x u → BothSet s o v n x u
object_name s t u o v n x h a b =
    record {
      shape = same_trans s t u a.shape b.shape;
      sound = b.sound;
      object = b.each_object o (rw a.shape.objects h) ∙ a.object;
      other_objects = λ i l d. b.each_object i (rw a.shape.objects l) ∙ a.other_objects i l d;
      name = b.name;
      other_names = λ m l d. name_kept_trans s t u m (a.each_name m l) (b.other_names m (rw a.shape.names l) d);
    }
