-- What the check of the mount table has found of the rows so far.
use Rattle.std.specs.Prelude.{◌≡◌, ℕ, ◌<◌, Bool, true, false, List, length, slice_index}
use Rattle.kinds.specs.Mount.{rows}
use Rattle.spec.specs.Count.{every}
use Rattle.mount_spec.specs.Table.{Table, row_at, is_used_row, has_pair, good_row, passes_table}
use Rattle.mount_check.specs.Digest.{digest}

-- row q has the pair of row r
abbrev pub is_same_pair : Table → ℕ → ℕ → Bool
is_same_pair t r q = has_pair t (row_at t r).host (row_at t r).path q

-- row r has a pair that no row before it has
abbrev pub IsNew : Table → ℕ → Type 0
IsNew t r = (q : ℕ) → q < r → is_same_pair t r q ≡ false

-- the first n rows pass by themselves, no pair stands twice among them, and `digests` has the digests of the used ones
pub record RowsPass (t : Table) (n : ℕ) (digests : List ℕ) : Type 0 where
  pub long : length digests ≡ rows
  pub good : every n (good_row t) ≡ true
  pub new : (r : ℕ) → r < n → is_used_row t r ≡ true → IsNew t r
  pub digested : (r : ℕ) → r < n → is_used_row t r ≡ true → slice_index digests r ≡ digest t r

-- what a part of the check tells: its own facts where it answers true, else that the table does not pass
pub record Tells (yes : Bool) (t : Table) (facts : Type 0) : Type 0 where
  pub holds : yes ≡ true → facts
  pub fails : yes ≡ false → passes_table t ≡ false
