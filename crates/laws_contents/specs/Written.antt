-- What a resize, a write and several writes make of a list of bytes. Nothing here knows a store.
use Rattle.std.specs.Prelude.{ℕ, ◌+◌, ◌-◌, cond, List, [], ◌∷◌, ◌++◌, eqb, length, take, drop, Option, Some, None}
use Rattle.spec.specs.Bytes.{zeros}

-- old cut to n bytes, or padded with zeros up to n
unfoldable pub at_size : List ℕ → ℕ → List ℕ
at_size old n = take n old ++ zeros (n - length old)

-- old up to i, with zeros in the gap where it ends before i; xs; and what old has after them
unfoldable pub laid : List ℕ → ℕ → List ℕ → List ℕ
laid old i xs = at_size old i ++ xs ++ drop (i + length xs) old

-- a WRITE of xs at i: "n = 0 succeeds and changes nothing"; "a gap reads zero"
unfoldable pub written : List ℕ → ℕ → List ℕ → List ℕ
written old i xs = cond (eqb (length xs) 0) old (laid old i xs)

-- one write: where, and what
pub record Write : Type 0 where
  pub offset : ℕ
  pub bytes : List ℕ

-- what one write makes
abbrev pub after : List ℕ → Write → List ℕ
after old w = written old w.offset w.bytes

-- what writes make one after the other, the first of the list first
unfoldable pub made : List ℕ → List Write → List ℕ
made old [] = old
made old (w ∷ ws) = made (after old w) ws

-- the contents of a file whose size a call may set
abbrev pub sized_to : List ℕ → Option ℕ → List ℕ
sized_to old None = old
sized_to old (Some n) = at_size old n
