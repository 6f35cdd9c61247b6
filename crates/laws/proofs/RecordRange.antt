-- That records read from bytes fit their places, and that writes of records keep bytes bytes. Assumes nothing.
use mathlib.Core.Path.{◌≡◌}
use mathlib.Core.List.{List, [], ◌∷◌}
use Prim.Native.Nat.{ℕ, zero, suc, ◌+◌, ◌*◌, ◌^◌, ◌≤◌, ◌<◌}
use native.Mathlib.Omega.{arith}
use lib.Dec.{lit<}
use lib.ListN.{length, get_or, replicate, length-take}
use Rattle.kinds.specs.Layout.{generation_offset, mode_offset, uid_offset, gid_offset, size_offset, atime_offset, mtime_offset, ctime_offset, blocks_offset}
use Rattle.kinds.specs.Layout.{verifier_offset, exclusive_offset, nanoseconds_offset, child_offset, length_offset, text_offset}
use Rattle.kinds.specs.Numbers.{file_blocks, most_name_bytes}
use Rattle.kinds.specs.declared.object.Object.{Object}
use Rattle.kinds.specs.declared.call.Part.{Part}
use Rattle.spec.specs.Bytes.{part, be_at, bytes_of}
use Rattle.spec.specs.Image.{Store, object_start, name_start, halves_at, halves_bytes, time_at, time_bytes, head_bytes, times_bytes, verifier_bytes, object_from}
use Rattle.spec.specs.Image.{object_bytes, object_at, put_object, Name, name_from, name_bytes, name_at, name_length, put_name}
use Rattle.spec.specs.Procedures.{cut}
use Rattle.laws.proofs.Bytes.{part_length}
use Rattle.laws.proofs.Range.{Below, below_append, below_drop, below_take, below_bytes, below_overlay, be_below}
use Rattle.laws.proofs.Records.{FitsObject, halves_count}
use Rattle.laws.proofs.Names.{FitsName}

pub one_below : (m x : ℕ) → x < m → Below m (x ∷ [])
one_below m x h zero = h
one_below m x h (suc k) = omega arith

halves_below : (b : List ℕ) (at n : ℕ) → Below 256 b → Below (2 ^ 16) (halves_at b at n)
unfolding halves_at
halves_below b at zero f k = lit< tt
halves_below b at (suc n) f k =
    below_append (2 ^ 16) (halves_at b at n) (be_at b (at + 2 * n) 2 ∷ []) (halves_below b at n f)
    (one_below (2 ^ 16) (be_at b (at + 2 * n) 2) (be_below b (at + 2 * n) 2 f)) k

-- what is read fits its places
pub object_at_fits : (s : Store) (o : ℕ) → Below 256 s → FitsObject (object_at s o)
unfolding object_at object_from time_at
object_at_fits s o f =
    let at = object_start o in
    record {
      kind = be_below s at 4 f;
      generation = be_below s (at + generation_offset) 4 f;
      mode = be_below s (at + mode_offset) 4 f;
      uid = be_below s (at + uid_offset) 4 f;
      gid = be_below s (at + gid_offset) 4 f;
      size = be_below s (at + size_offset) 4 f;
      atime = record { seconds = be_below s (at + atime_offset) 4 f; nanoseconds = be_below s (at + atime_offset + nanoseconds_offset) 4 f };
      mtime = record { seconds = be_below s (at + mtime_offset) 4 f; nanoseconds = be_below s (at + mtime_offset + nanoseconds_offset) 4 f };
      ctime = record { seconds = be_below s (at + ctime_offset) 4 f; nanoseconds = be_below s (at + ctime_offset + nanoseconds_offset) 4 f };
      long = halves_count s (at + blocks_offset) file_blocks;
      halves = halves_below s (at + blocks_offset) file_blocks f;
      verifier = be_below s (at + verifier_offset) 8 f;
      exclusive = be_below s (at + exclusive_offset) 4 f;
    }

pub below_part : (m : ℕ) (b : List ℕ) (at n : ℕ) → 0 < m → Below m b → Below m (part b at n)
unfolding part
below_part m b at n p f = below_take m _ n p (below_drop m b at f)

-- a part of a call is bytes
pub cut_below : (call : List ℕ) (p : Part) → Below 256 call → Below 256 (cut call p)
cut_below call p f = below_part 256 call p.start p.length (lit< tt) f

pub name_at_fits : (s : Store) (n : ℕ) → Below 256 s → name_length s n ≤ most_name_bytes → FitsName (name_at s n)
unfolding name_at name_from name_length part
name_at_fits s n f h =
    record { directory = be_below s (name_start s n) 4 f; child = be_below s (name_start s n + child_offset) 4 f; text = simp length-take (omega arith) }

-- the text of a name record is as long as the record says
pub text_length : (s : Store) (n : ℕ) → name_start s n + text_offset + name_length s n ≤ length s → length (name_at s n).text ≡ name_length s n
unfolding name_at name_from name_length
text_length s n h = part_length s (name_start s n + text_offset) (be_at s (name_start s n + length_offset) 4) h

-- a write keeps bytes bytes
halves_bytes_lem : (n : ℕ) (xs : List ℕ) → Below 256 (halves_bytes n xs)
unfolding halves_bytes
halves_bytes_lem zero xs k = lit< tt
halves_bytes_lem (suc n) xs k = below_append 256 (halves_bytes n xs) (bytes_of 2 (get_or xs n 0)) (halves_bytes_lem n xs) (below_bytes 2 (get_or xs n 0)) k

pub object_bytes_lem : (v : Object) → Below 256 (object_bytes v)
unfolding object_bytes head_bytes times_bytes time_bytes verifier_bytes
object_bytes_lem v = search (below_append, below_bytes, halves_bytes_lem) depth 20 fits 4000

pub below_zeros : (n : ℕ) → Below 256 (replicate n 0)
below_zeros zero k = lit< tt
below_zeros (suc n) zero = lit< tt
below_zeros (suc n) (suc k) = below_zeros n k

pub name_bytes_lem : (v : Name) → Below 256 v.text → Below 256 (name_bytes v)
unfolding name_bytes
name_bytes_lem v f = search (below_append, below_bytes, below_zeros, f) depth 14

pub below_put_object : (s : Store) (o : ℕ) (v : Object) → Below 256 s → Below 256 (put_object s o v)
unfolding put_object
below_put_object s o v f = below_overlay s (object_start o) (object_bytes v) f (object_bytes_lem v)

pub below_put_name : (s : Store) (n : ℕ) (v : Name) → Below 256 s → Below 256 v.text → Below 256 (put_name s n v)
unfolding put_name
below_put_name s n v f g = below_overlay s (name_start s n) (name_bytes v) f (name_bytes_lem v g)
