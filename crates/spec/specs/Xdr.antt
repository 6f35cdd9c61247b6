-- XDR (RFC 4506) as readers: each takes the bytes of a call and a position, and gives the value and the position after it, or the
-- place at which it refuses.
use Rattle.std.specs.Prelude.{ℕ, ◌+◌, List, Bool, true, false, cond, length, leb, eqb}
use Rattle.kinds.specs.Reading.{Read, got, bad}
use Rattle.kinds.specs.declared.call.Part.{Part}
use Rattle.spec.specs.Bytes.{be_at, padding}

abbrev pub Reader : Type 0 → Type 0
Reader A = List ℕ → ℕ → Read A

-- "The first field that can't be read ends the reading."
abbrev pub bind : {A B : Type 0} → Read A → (A → ℕ → Read B) → Read B
bind (got a at) k = k a at
bind (bad p) k = bad p

infixl 10 ◌>>=◌
abbrev pub ◌>>=◌ : {A B : Type 0} → Reader A → (A → Reader B) → Reader B
◌>>=◌ p k s at = bind (p s at) (λ a next. k a s next)

infixl 10 ◌>>◌
abbrev pub ◌>>◌ : {A B : Type 0} → Reader A → Reader B → Reader B
◌>>◌ p q s at = bind (p s at) (λ a next. q s next)

-- reads nothing
abbrev pub done : {A : Type 0} → A → Reader A
done a s at = got a at

-- what was read where the test holds, else a refusal at p
abbrev pub only_if : {A : Type 0} → Bool → ℕ → Read A → Read A
only_if true p r = r
only_if false p r = bad p

-- goes on only where the test holds
abbrev pub check : Bool → Reader (Unit {0})
check b s at = only_if b at (got tt at)

abbrev pub placed : {A : Type 0} → ℕ → Read A → Read A
placed p (got a at) = got a at
placed p (bad q) = bad p

-- one XDR item: it is refused at its own start, whatever in it fails ("the innermost XDR item; of variable length: its length word")
abbrev pub item : {A : Type 0} → Reader A → Reader A
item p s at = placed at (p s at)

-- a field of n bytes, all within the call, whose value is f
abbrev pub field : {A : Type 0} → ℕ → (List ℕ → ℕ → A) → Reader A
field n f s at = only_if (leb (at + n) (length s)) at (got (f s at) (at + n))

-- an unsigned number of w bytes, most significant first
unfoldable pub number : ℕ → Reader ℕ
number w = field w (λ s at. be_at s at w)

-- unsigned int
unfoldable pub word : Reader ℕ
word = number 4

-- unsigned hyper; also 8 bytes of fixed-length opaque data, as a number
unfoldable pub long : Reader ℕ
long = number 8

-- an enumeration of the numbers 0 to top: "an unknown enum" is refused
unfoldable pub choice : ℕ → Reader ℕ
choice top = item (do
  n ← word
  check (leb n top)
  done n)

-- bool: "a boolean over 1" is refused
unfoldable pub flag : Reader Bool
flag = do
  n ← choice 1
  done (eqb n 1)

-- a boolean, and a value where it is true
abbrev pub optional : {A B : Type 0} → Reader A → (A → B) → B → Reader B
optional value present absent = do
  given ← flag
  cond given (do
    a ← value
    done (present a)) (done absent)

-- the next n bytes, as a part of the call
unfoldable pub bytes : ℕ → Reader Part
bytes n = field n (λ s at. record { start = at; length = n })

-- variable-length opaque data of at most so many bytes, padded to a multiple of four: "Whatever reads a padded field now accepts any pad
-- bytes", "Missing pad bytes still refuse."
unfoldable pub opaque : ℕ → Reader Part
opaque most = item (do
  n ← word
  check (leb n most)
  part ← bytes n
  bytes (padding n)
  done part)

-- the maximum of opaque data that has none: its length is a word
abbrev pub no_maximum : ℕ
no_maximum = 4294967295

-- the end of the call: "bytes left over" are refused at "the first byte left over"
unfoldable pub end : Reader (Unit {0})
end s at = only_if (eqb at (length s)) at (got tt at)
