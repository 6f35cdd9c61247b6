-- Examples of the search for a name and of the byte pairs that it compares, by computation.
use Prim.Native.Nat.{ℕ, ◌+◌}
use lib.ListN.{replicate}
use mathlib.Core.List.{List, [], ◌∷◌, ◌++◌}
use mathlib.Core.Option.{Option, some, none}
use mathlib.Core.Bool.{true}
use mathlib.Core.Path.{◌≡◌, refl}
use Rattle.spec.specs.Bytes.{zeros, words}
use Rattle.spec.specs.Check.{passes}
use Rattle.spec.specs.Image.{Store, name_bytes}
use Rattle.spec.specs.Room.{find_name, compared}
use Rattle.spec.proofs.Setting.{tag0123456789, tag123456789, computing}

-- the tags 0123456780, 0123456700 and 1123456789
abbrev pub tag0123456780 : List ℕ
tag0123456780 = 0x30 ∷ 0x31 ∷ 0x32 ∷ 0x33 ∷ 0x34 ∷ 0x35 ∷ 0x36 ∷ 0x37 ∷ 0x38 ∷ 0x30 ∷ []

abbrev pub tag0123456700 : List ℕ
tag0123456700 = 0x30 ∷ 0x31 ∷ 0x32 ∷ 0x33 ∷ 0x34 ∷ 0x35 ∷ 0x36 ∷ 0x37 ∷ 0x30 ∷ 0x30 ∷ []

abbrev pub tag1123456789 : List ℕ
tag1123456789 = 0x31 ∷ 0x31 ∷ 0x32 ∷ 0x33 ∷ 0x34 ∷ 0x35 ∷ 0x36 ∷ 0x37 ∷ 0x38 ∷ 0x39 ∷ []

-- an object record of a type and a mode, and the name record of a child in a directory
abbrev pub object_words : ℕ → ℕ → List ℕ
object_words type mode = words (type ∷ 0 ∷ mode ∷ 0 ∷ 0 ∷ 0 ∷ 5 ∷ 6 ∷ 5 ∷ 6 ∷ 5 ∷ 6 ∷ []) ++ replicate 32 255 ++ zeros 12

abbrev pub name_record : ℕ → ℕ → List ℕ → List ℕ
name_record d o text = name_bytes (record { directory = d; child = o; text = text })

-- the root with the tags 0123456789 (record 0), 123456789 (record 1) and 0123456780 (record 4), and with the directory "d" (record 5), object 4, which
-- has the tag 0123456780 too (record 3); record 2 is free
abbrev pub lane : Store
lane =
    words (1 ∷ 9 ∷ 6 ∷ []) ++ object_words 2 493
    ++ object_words 1 0 ++ object_words 1 0 ++ object_words 1 0 ++ object_words 2 0 ++ object_words 1 0
    ++ words (6 ∷ [])
    ++ name_record 0 1 tag0123456789 ++ name_record 0 2 tag123456789 ++ zeros 44 ++ name_record 4 5 tag0123456780 ++ name_record 0 3 tag0123456780
    ++ name_record 0 4 (0x64 ∷ [])
    ++ words (0 ∷ [])

-- what the search finds and how many pairs it compares
abbrev pub search : ℕ → List ℕ → Option ℕ × ℕ
search d text = (find_name lane d text, compared lane d text)

pub record Searching : Type 0 where
  pub good : passes lane ≡ true
  -- "ascending up to the match": record 0 is counted, record 4 is not
  pub first_record : search 0 tag0123456789 ≡ (some 0, 10)
  -- "0 where lengths differ": at record 0; "the whole name": at record 1
  pub other_length : search 0 tag123456789 ≡ (some 1, 9)
  -- "through the first difference": the last byte at record 0; record 3 is in another directory
  pub last_byte : search 0 tag0123456780 ≡ (some 4, 10 + 10)
  -- without a match "all of the directory's records": the ninth byte at records 0 and 4; the first byte
  pub ninth_byte : search 0 tag0123456700 ≡ (none, 9 + 9)
  pub first_byte : search 0 tag1123456789 ≡ (none, 1 + 1)
  -- in the directory "d", and in a file, which has no records
  pub below : search 4 tag0123456780 ≡ (some 3, 10)
  pub below_none : search 4 tag0123456789 ≡ (none, 10)
  pub no_records : search 1 tag0123456789 ≡ (none, 0)
  -- a name of one byte, and one that no record's length is
  pub one_byte : search 0 (0x64 ∷ []) ≡ (some 5, 1)
  pub no_length : search 0 (0x64 ∷ 0x64 ∷ []) ≡ (none, 0)

pub searching : Searching
unfolding computing
searching =
    record {
      good = refl;
      first_record = refl;
      other_length = refl;
      last_byte = refl;
      ninth_byte = refl;
      first_byte = refl;
      below = refl;
      below_none = refl;
      no_records = refl;
      one_byte = refl;
      no_length = refl;
    }
