-- Small lists that are resized and written, by computation. Assumes nothing.
use mathlib.Core.Path.{◌≡◌, refl}
use mathlib.Core.List.{List, [], ◌∷◌}
use Prim.Native.Nat.{ℕ}
use Rattle.laws_contents.specs.Written.{at_size, laid, written, made}

-- three bytes
abbrev old : List ℕ
old = 1 ∷ 2 ∷ 3 ∷ []

-- cut to two, and padded to five
cut_write : at_size old 2 ≡ 1 ∷ 2 ∷ []
unfolding at_size
cut_write = refl

padded : at_size old 5 ≡ 1 ∷ 2 ∷ 3 ∷ 0 ∷ 0 ∷ []
unfolding at_size
padded = refl

-- a write inside, one over the end, and one after a gap
inside : written old 1 (9 ∷ []) ≡ 1 ∷ 9 ∷ 3 ∷ []
unfolding written laid at_size
inside = refl

over_end : written old 2 (8 ∷ 9 ∷ []) ≡ 1 ∷ 2 ∷ 8 ∷ 9 ∷ []
unfolding written laid at_size
over_end = refl

after_gap : written old 5 (9 ∷ []) ≡ 1 ∷ 2 ∷ 3 ∷ 0 ∷ 0 ∷ 9 ∷ []
unfolding written laid at_size
after_gap = refl

-- no bytes change nothing, wherever they are written
no_bytes : written old 5 [] ≡ old
unfolding written
no_bytes = refl

-- of two writes of one byte the second stays
second_stays : made old (record { offset = 0; bytes = 8 ∷ [] } ∷ record { offset = 0; bytes = 9 ∷ [] } ∷ []) ≡ 9 ∷ 2 ∷ 3 ∷ []
unfolding made written laid at_size
second_stays = refl
