-- Byte lists: a part of one, a part replaced, and big-endian numbers, stated once over their width.
use Rattle.std.specs.Prelude.{ℕ, zero, suc, ◌+◌, ◌*◌, ◌-◌, ◌/◌, ◌%◌, ◌^◌, List, [], ◌∷◌, ◌++◌, Bool, true, false, ◌&&◌, cond, eqb, length, take, drop, replicate}

-- the n bytes of b from index at
unfoldable pub part : List ℕ → ℕ → ℕ → List ℕ
part b at n = take n (drop at b)

-- b with xs in the place of its bytes from index at; all else stays
unfoldable pub overlay : List ℕ → ℕ → List ℕ → List ℕ
overlay b at xs = take at b ++ xs ++ drop (at + length xs) b

-- n zero bytes
abbrev pub zeros : ℕ → List ℕ
zeros n = replicate n 0

-- the number whose digits to base 256 are those of acc and then xs
unfoldable pub digits : ℕ → List ℕ → ℕ
digits acc [] = acc
digits acc (x ∷ xs) = digits (acc * 256 + x) xs

-- the number that the bytes xs spell, most significant first
unfoldable pub be_of : List ℕ → ℕ
unfolding digits
be_of xs = digits 0 xs

-- the lowest w bytes of n, most significant first
unfoldable pub bytes_of : ℕ → ℕ → List ℕ
bytes_of zero n = []
bytes_of (suc w) n = n / 256 ^ w % 256 ∷ bytes_of w n

-- the number in the w bytes of b from index at
unfoldable pub be_at : List ℕ → ℕ → ℕ → ℕ
be_at b at w = be_of (part b at w)

-- words of four bytes each
unfoldable pub words : List ℕ → List ℕ
words [] = []
words (w ∷ ws) = bytes_of 4 w ++ words ws

-- the bytes that pad n bytes to a multiple of four
abbrev pub padding : ℕ → ℕ
padding n = (4 - n % 4) % 4

-- XDR variable-length opaque data: its length, the bytes, zeros up to a multiple of four
unfoldable pub opaque_bytes : List ℕ → List ℕ
opaque_bytes xs = words (length xs ∷ []) ++ xs ++ zeros (padding (length xs))

-- whether two byte lists are the same: of one length, and equal byte for byte
unfoldable pub same_bytes : List ℕ → List ℕ → Bool
same_bytes [] [] = true
same_bytes [] (y ∷ ys) = false
same_bytes (x ∷ xs) [] = false
same_bytes (x ∷ xs) (y ∷ ys) = eqb x y && same_bytes xs ys

-- how many pairs of bytes are compared, in order: "through the first difference or, without one, the whole name"
unfoldable pub pairs : List ℕ → List ℕ → ℕ
pairs [] ys = 0
pairs (x ∷ xs) [] = 0
pairs (x ∷ xs) (y ∷ ys) = 1 + cond (eqb x y) (pairs xs ys) 0

-- whether every byte of a list passes a test
unfoldable pub all_bytes : (ℕ → Bool) → List ℕ → Bool
all_bytes p [] = true
all_bytes p (x ∷ xs) = p x && all_bytes p xs
