-- A name record by itself: its text, its padding, its directory and its child. Assumes nothing.
use mathlib.Core.Path.{◌≡◌}
use mathlib.Core.Bool.{true, ◌&&◌}
use Prim.Native.Nat.{ℕ, ◌+◌, ◌*◌, ◌-◌, ◌<◌}
use native.Mathlib.Omega.{arith}
use Rattle.kinds.specs.Layout.{names_head, object_length, child_offset, length_offset, text_offset, name_record_length}
use Rattle.kinds.specs.Numbers.{most_name_bytes}
use Rattle.spec.specs.Bytes.{part, be_at}
use Rattle.spec.specs.Image.{Store, objects, names, name_from, name_at, name_length}
use Rattle.spec.specs.Names.{good_name}
use Rattle.spec.specs.Room.{is_used_name}
use Rattle.spec.specs.Check.{is_zero, good_used, good_name_record}
use Rattle.laws.proofs.GoodKept.{used_of}
use Rattle.laws.proofs.Valid.{Framed, UsedName, used_true, true_used, name_record_lem}
use Rattle.fsck_names.specs.Record.{is_directory_in, is_live_in}

-- the demands on a used record, by its bytes
pub used_is : (s : Store) (p n len at : ℕ) → p ≡ objects s → len ≡ name_length s n → at ≡ names_head + object_length * p + name_record_length * n
    → good_used s n
    ≡ good_name (part s (at + text_offset) len) && is_zero (part s (at + text_offset + len) (most_name_bytes - len))
    && is_directory_in s (be_at s at 4) && is_live_in s (be_at s (at + child_offset) 4)
unfolding good_used name_at name_from name_length is_directory_in is_live_in
used_is s p n len at e f g = rw (g, e, f)

-- a used record that passes, as the laws take it apart
pub used_passes : (s : Store) (n : ℕ) → Framed s → n < names s → is_used_name s n ≡ true → good_name_record s n ≡ true → UsedName s n
used_passes s n t l u e = used_of s n (used_true s n u) (name_record_lem s n (omega (arith, t.inside)) e)

pub is_used : (s : Store) (n : ℕ) → UsedName s n → is_used_name s n ≡ true
is_used s n w = true_used s n (omega (arith, w.good.some_byte, w.exact))

-- where the length of a record stands
pub length_at : (s : Store) (p n at : ℕ) → p ≡ objects s → at ≡ names_head + object_length * p + name_record_length * n
    → name_length s n ≡ be_at s (at + length_offset) 4
unfolding name_length
length_at s p n at e f = rw (f, e)
