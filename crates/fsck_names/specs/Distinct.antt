-- The hash of a name record, and the chains of records with one hash.
use Rattle.std.specs.Prelude.{ℕ, zero, suc, ◌+◌, ◌*◌, ◌/◌, ◌%◌, ◌^◌, ◌<◌, ◌≡◌, Bool, true, ◌&&◌, cond, List, eqb, length, get_or}
use Rattle.kinds.specs.Layout.{text_offset}
use Rattle.kinds.specs.Numbers.{most_name_records, most_name_bytes}
use Rattle.spec.specs.Bytes.{part}
use Rattle.spec.specs.Count.{every}
use Rattle.spec.specs.Image.{Store, names, name_start, name_at}
use Rattle.spec.specs.Room.{is_used_name, is_named}
use Rattle.spec.specs.Check.{good_name_record}
use Rattle.laws.proofs.Valid.{UsedName}
use Rattle.wire.specs.Hash.{word_at, joined}

-- one byte of a directory and the four words of 32 name bytes. Each word is turned by another number of bits, so that its place counts, and
-- the halves of the sum have factors of their own; all these numbers were chosen by trying, so that names spread that differ in one or two
-- bytes, or in the order of their words
unfoldable pub mix : ℕ → List ℕ → ℕ
mix d text =
    let x = joined (joined (joined (joined d (word_at text 0)) (word_at text 8)) (word_at text 16)) (word_at text 24) in
    (x / 2 ^ 32 * 2104504639 + x % 2 ^ 32 * 1511612125) / 2 ^ 27 % 256

-- the name bytes of record n: its text, and its padding
abbrev pub padded_text : Store → ℕ → List ℕ
padded_text s n = part s (name_start s n + text_offset) most_name_bytes

-- the hash of record n
unfoldable pub hash : Store → ℕ → ℕ
hash s n = mix (name_at s n).directory (padded_text s n)

-- 1 more than the greatest used record below n with hash h, or 0 where there is none
unfoldable pub last : Store → ℕ → ℕ → ℕ
last s zero h = 0
last s (suc n) h = cond (is_used_name s n && eqb (hash s n) h) (suc n) (last s n h)

-- record m has the directory and the name of record n
abbrev pub is_same : Store → ℕ → ℕ → Bool
is_same s n m = is_named s (name_at s n).directory (name_at s n).text m

-- record n is used and passes by itself, as those before it do, and h is its hash
pub record New (s : Store) (n h : ℕ) : Type 0 where
  pub below : n < names s
  pub itself : UsedName s n
  pub before : every n (good_name_record s) ≡ true
  pub hashed : h ≡ hash s n
  pub small : h < 256

-- the chains of the records below n
pub record Chains (s : Store) (n : ℕ) (head next : List ℕ) : Type 0 where
  pub long_head : length head ≡ 256
  pub long_next : length next ≡ most_name_records
  pub heads : (h : ℕ) → h < 256 → get_or head h 0 ≡ last s n h
  pub nexts : (m : ℕ) → m < n → is_used_name s m ≡ true → get_or next m 0 ≡ last s m (hash s m)
