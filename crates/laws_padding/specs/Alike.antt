-- Calls, and lists of requests, that differ at most in padding: "its meaning doesn't depend on them".
use Rattle.std.specs.Prelude.{ℕ, ◌+◌, Bool, false, ◌&&◌, ◌||◌, List, [], ◌∷◌, ◌≡◌, leb, ltb, length, get_or}
use Rattle.kinds.specs.declared.call.Part.{Part}
use Rattle.spec.specs.Bytes.{padding}
use Rattle.history.specs.Run.{Request}
use Rattle.laws_padding.specs.Fields.{fields_of}

-- the padding of a field: the bytes behind its own, up to a multiple of four
abbrev pub pad_start : Part → ℕ
pad_start f = f.start + f.length

abbrev pub pad_end : Part → ℕ
pad_end f = f.start + f.length + padding f.length

-- index i is in the padding of a field, or of one of several
abbrev pub in_padding : Part → ℕ → Bool
in_padding f i = leb (pad_start f) i && ltb i (pad_end f)

unfoldable pub in_paddings : List Part → ℕ → Bool
in_paddings [] i = false
in_paddings (f ∷ fs) i = in_padding f i || in_paddings fs i

-- byte i of a call is padding of a field that is read
abbrev pub is_pad : List ℕ → ℕ → Bool
is_pad call i = in_paddings (fields_of call) i

-- "pad bytes, .. its meaning doesn't depend on them": the two calls have one length, and the same byte at every index that is no padding in s
pub record SameButPads (s t : List ℕ) : Type 0 where
  pub same_length : length t ≡ length s
  pub same_byte : (i : ℕ) → is_pad s i ≡ false → get_or t i 0 ≡ get_or s i 0

-- the same clock, verifier and reply space, and a call that differs at most in padding
pub record SameRequest (x y : Request) : Type 0 where
  pub call : SameButPads x.call y.call
  pub context : y.context ≡ x.context
  pub space : y.space ≡ x.space

abbrev pub SameRequests : List Request → List Request → Type 0
SameRequests [] [] = Unit {0}
SameRequests [] (y ∷ ys) = ⊥
SameRequests (x ∷ xs) [] = ⊥
SameRequests (x ∷ xs) (y ∷ ys) = SameRequest x y × SameRequests xs ys
