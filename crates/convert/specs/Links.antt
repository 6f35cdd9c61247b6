-- The names of an object by the map of links.
use Rattle.std.specs.Prelude.{ℕ, Bool, List, leb, get_or}

-- object o has at most one name
abbrev pub has_one_name : List ℕ → ℕ → Bool
has_one_name links o = leb (get_or links o 0) 1
