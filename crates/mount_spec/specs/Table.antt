-- The mount table: its layout, its check, and what MNT, UMNT and UMNTALL make of it.
use Rattle.std.specs.Prelude.{ℕ, zero, suc, ◌+◌, ◌*◌, ◌-◌, List, [], ◌++◌, Bool, ◌&&◌, ◌||◌, not, cond, eqb, leb, length}
use Rattle.std.proofs.Math.Option.{Option, some, none}
use Rattle.kinds.specs.Mount.{rows, most_path_bytes, path_length_offset, path_offset, row_length, table_length}
use Rattle.kinds.specs.Numbers.{SERVERFAULT}
use Rattle.spec.specs.Bytes.{part, overlay, zeros, be_at, bytes_of, same_bytes}
use Rattle.spec.specs.Check.{is_zero}
use Rattle.spec.specs.Checked.{Checked, refused, passed}
use Rattle.spec.specs.Count.{count, every, lowest}
use Rattle.mount_spec.specs.Path.{starts_with_slash}

-- the bytes of a mount table
abbrev pub Table : Type 0
Table = List ℕ

-- a row: the path that a host has mounted; a free one's path is empty
pub record Row : Type 0 where
  pub host : ℕ
  pub path : List ℕ

-- where row r starts
abbrev pub row_start : ℕ → ℕ
row_start r = row_length * r

-- the path length that row r states
unfoldable pub path_length : Table → ℕ → ℕ
path_length t r = be_at t (row_start r + path_length_offset) 4

-- "32 rows of host, path length (4 each), path (1,024)"
unfoldable pub row_at : Table → ℕ → Row
row_at t r = record { host = be_at t (row_start r) 4; path = part t (row_start r + path_offset) (path_length t r) }

unfoldable pub row_bytes : Row → List ℕ
row_bytes v = bytes_of 4 v.host ++ bytes_of 4 (length v.path) ++ v.path ++ zeros (most_path_bytes - length v.path)

unfoldable pub put_row : Table → ℕ → Row → Table
put_row t r v = overlay t (row_start r) (row_bytes v)

-- "path length 0 is a free row, all 1,032 bytes zero"
abbrev pub free_row : Row
free_row = record { host = 0; path = [] }

unfoldable pub is_used_row : Table → ℕ → Bool
is_used_row t r = not (eqb (path_length t r) 0)

-- row r is of a host
unfoldable pub is_of_host : Table → ℕ → ℕ → Bool
is_of_host t host r = is_used_row t r && eqb (row_at t r).host host

-- row r has this pair: "Pairs are compared byte by byte as sent."
unfoldable pub has_pair : Table → ℕ → List ℕ → ℕ → Bool
has_pair t host path r = is_of_host t host r && (eqb (path_length t r) (length path) && same_bytes (row_at t r).path path)

-- ---- the check
-- "else 1 to 1,024, first byte a slash, zero behind"
unfoldable pub good_used_row : Table → ℕ → Bool
good_used_row t r =
    leb (path_length t r) most_path_bytes && starts_with_slash (row_at t r).path
    && is_zero (part t (row_start r + path_offset + path_length t r) (most_path_bytes - path_length t r))

-- "free rows zero; paths start with a slash, zero-padded"
unfoldable pub good_row : Table → ℕ → Bool
good_row t r = cond (is_used_row t r) (good_used_row t r) (is_zero (part t (row_start r) row_length))

-- "no pair twice"
unfoldable pub is_only_pair : Table → ℕ → Bool
is_only_pair t r = not (is_used_row t r) || eqb (count rows (has_pair t (row_at t r).host (row_at t r).path)) 1

-- the table's check: "Mount table: 33,024 bytes"
unfoldable pub passes_table : Table → Bool
passes_table t = eqb (length t) table_length && every rows (good_row t) && every rows (is_only_pair t)

-- ---- the edits
-- the row of a pair, and "the lowest free row"
unfoldable pub find_pair : Table → ℕ → List ℕ → Option ℕ
find_pair t host path = lowest rows (has_pair t host path)

unfoldable pub available_row : Table → Option ℕ
available_row t = lowest rows (λ r. not (is_used_row t r))

-- "else a full table gives SERVERFAULT"; "the lowest free row is taken"
abbrev pub taking : Table → ℕ → List ℕ → Option ℕ → Checked Table
taking t host path none = refused SERVERFAULT
taking t host path (some r) = passed (put_row t r (record { host = host; path = path }))

-- "A pair already there isn't added again"
abbrev pub adding : Table → ℕ → List ℕ → Option ℕ → Checked Table
adding t host path (some r) = passed t
adding t host path none = taking t host path (available_row t)

-- what MNT makes of the table; "Paths are kept as sent"
unfoldable pub add_pair : Table → ℕ → List ℕ → Checked Table
add_pair t host path = adding t host path (find_pair t host path)

abbrev pub striking : Table → Option ℕ → Table
striking t none = t
striking t (some r) = put_row t r free_row

-- "UMNT zeroes that pair's row, resolves nothing and always succeeds"
unfoldable pub remove_pair : Table → ℕ → List ℕ → Table
remove_pair t host path = striking t (find_pair t host path)

-- row r free where it is of a host
unfoldable pub strike_row : Table → ℕ → ℕ → Table
strike_row t host r = cond (is_of_host t host r) (put_row t r free_row) t

-- the first n rows, one after the other
unfoldable pub strike_rows : Table → ℕ → ℕ → Table
strike_rows t host zero = t
strike_rows t host (suc n) = strike_row (strike_rows t host n) host n

-- "UMNTALL zeroes the host's rows; other rows stay where they are."
unfoldable pub remove_host : Table → ℕ → Table
remove_host t host = strike_rows t host rows
