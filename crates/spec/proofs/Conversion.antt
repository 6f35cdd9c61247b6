-- Examples of the converter, by computation.
use Prim.Native.Nat.{ℕ}
use lib.ListN.{replicate, drop}
use mathlib.Core.List.{List, [], ◌∷◌, ◌++◌}
use mathlib.Core.Path.{◌≡◌, refl}
use Rattle.spec.specs.Bytes.{zeros, words}
use Rattle.spec.specs.Image.{Store}
use Rattle.spec.specs.Serve.{Written, check, convert}
use Rattle.spec.proofs.Setting.{computing}

-- an old image of stamp 9 with a root of this mode and the file "a", which is one byte long and has the only block; its records have 80 bytes
abbrev pub old_image : ℕ → List ℕ
old_image mode =
    words (1 ∷ 9 ∷ 2 ∷ 2 ∷ 0 ∷ mode ∷ 0 ∷ 0 ∷ 0 ∷ 5 ∷ 6 ∷ 5 ∷ 6 ∷ 5 ∷ 6 ∷ []) ++ replicate 32 255
    ++ words (1 ∷ 3 ∷ 420 ∷ 7 ∷ 8 ∷ 1 ∷ 1 ∷ 2 ∷ 3 ∷ 4 ∷ 5 ∷ 6 ∷ []) ++ zeros 2 ++ replicate 30 255
    ++ words (1 ∷ 0 ∷ 1 ∷ 1 ∷ 0x61000000 ∷ []) ++ zeros 28 ++ words (1 ∷ 0x41000000 ∷ []) ++ zeros 508

-- the same with records of 92 bytes
abbrev pub new_image : List ℕ
new_image =
    words (1 ∷ 9 ∷ 2 ∷ 2 ∷ 0 ∷ 493 ∷ 0 ∷ 0 ∷ 0 ∷ 5 ∷ 6 ∷ 5 ∷ 6 ∷ 5 ∷ 6 ∷ []) ++ replicate 32 255 ++ zeros 12
    ++ words (1 ∷ 3 ∷ 420 ∷ 7 ∷ 8 ∷ 1 ∷ 1 ∷ 2 ∷ 3 ∷ 4 ∷ 5 ∷ 6 ∷ []) ++ zeros 2 ++ replicate 30 255 ++ zeros 12
    ++ words (1 ∷ 0 ∷ 1 ∷ 1 ∷ 0x61000000 ∷ []) ++ zeros 28 ++ words (1 ∷ 0x41000000 ∷ []) ++ zeros 508

-- an old image of stamp 9 up to its names: a root and an empty file
abbrev pub old_records : List ℕ
old_records =
    words (1 ∷ 9 ∷ 2 ∷ 2 ∷ 0 ∷ 493 ∷ 0 ∷ 0 ∷ 0 ∷ 5 ∷ 6 ∷ 5 ∷ 6 ∷ 5 ∷ 6 ∷ []) ++ replicate 32 255
    ++ words (1 ∷ 0 ∷ 0 ∷ 0 ∷ 0 ∷ 0 ∷ 5 ∷ 6 ∷ 5 ∷ 6 ∷ 5 ∷ 6 ∷ []) ++ replicate 32 255

-- refused with a number, the target as it was
abbrev pub refused_with : ℕ → Store → Written
refused_with number s = record { number = number; store = s }

pub record Conversion : Type 0 where
  -- "keeps every old field, and so handles, the new ones zero": 20 + 80 * 2 + 44 + 512 bytes become 20 + 92 * 2 + 44 + 512
  pub whole : convert (old_image 493) (replicate 760 165) ≡ record { number = 0; store = new_image }
  pub passes : check new_image ≡ 0
  -- "it answers 1 for a bad old image": a mode over 4,095, with any target; no bytes; a byte less; an image of the new layout
  pub bad_mode : convert (old_image 4096) (replicate 760 165) ≡ refused_with 1 (replicate 760 165)
  pub bad_first : convert (old_image 4096) [] ≡ refused_with 1 []
  pub empty : convert [] (zeros 112) ≡ refused_with 1 (zeros 112)
  pub cut : convert (drop 1 (old_image 493)) (zeros 760) ≡ refused_with 1 (zeros 760)
  pub new_layout : convert new_image (zeros 760) ≡ refused_with 1 (zeros 760)
  -- "then 6 for a target not of exactly the new length, target untouched"
  pub short_target : convert (old_image 493) (replicate 759 165) ≡ refused_with 6 (replicate 759 165)
  pub long_target : convert (old_image 493) (replicate 761 165) ≡ refused_with 6 (replicate 761 165)

pub conversion : Conversion
unfolding computing
conversion =
    record {
      whole = refl;
      passes = refl;
      bad_mode = refl;
      bad_first = refl;
      empty = refl;
      cut = refl;
      new_layout = refl;
      short_target = refl;
      long_target = refl;
    }
