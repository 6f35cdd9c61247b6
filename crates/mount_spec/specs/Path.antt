-- The path of MNT: its components, and the directory that it leads to.
use Rattle.std.specs.Prelude.{ℕ, List, [], ◌∷◌, ◌++◌, Bool, false, not, cond, eqb}
use Rattle.kinds.specs.Numbers.{NOTDIR, INVAL}
use Rattle.spec.specs.Checked.{Checked, ◌>>=◌, ◌>>◌, refuse_if, passed}
use Rattle.spec.specs.Image.{Store}
use Rattle.spec.specs.Room.{is_directory}
use Rattle.spec.specs.Procedures.Names.{check_in}

abbrev pub slash : ℕ
slash = 0x2F

-- "paths starting with a slash"
unfoldable pub starts_with_slash : List ℕ → Bool
starts_with_slash [] = false
starts_with_slash (x ∷ xs) = eqb x slash

-- a component before others; "empty components skipped"
abbrev pub before : List ℕ → List (List ℕ) → List (List ℕ)
before [] rest = rest
before (x ∷ xs) rest = (x ∷ xs) ∷ rest

-- the components of a component's first bytes and what follows them; a slash ends a component, and so does the end of the path
unfoldable pub split : List ℕ → List ℕ → List (List ℕ)
split first [] = before first []
split first (x ∷ xs) = cond (eqb x slash) (before first (split [] xs)) (split (first ++ (x ∷ [])) xs)

unfoldable pub components : List ℕ → List (List ℕ)
components path = split [] path

-- a component in object d: "NOTDIR of the object so far, then LOOKUP's name checks, "." and "..", NOENT"
unfoldable pub enter : Store → ℕ → List ℕ → Checked ℕ
enter s d text = do
  refuse_if (not (is_directory s d)) NOTDIR
  check_in s d text

-- "resolved component by component with LOOKUP's rules ..; the first failing component decides the status"
unfoldable pub walk : Store → ℕ → List (List ℕ) → Checked ℕ
walk s o [] = passed o
walk s o (text ∷ texts) = do
  next ← enter s o text
  walk s next texts

-- the root is object 0
abbrev pub root : ℕ
root = 0

-- the directory of a path: "MNT takes paths starting with a slash (else INVAL)"; "a file at the end is NOTDIR"
unfoldable pub mount_point : Store → List ℕ → Checked ℕ
mount_point s path = do
  refuse_if (not (starts_with_slash path)) INVAL
  o ← walk s root (components path)
  refuse_if (not (is_directory s o)) NOTDIR
  passed o
