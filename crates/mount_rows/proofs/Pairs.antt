-- Whether a row has a pair, test by test. Assumes nothing.
use Prim.Native.Nat.{ℕ, ◌+◌}
use mathlib.Core.Path.{◌≡◌, sym, ◌∙◌}
use mathlib.Core.Bool.{true, false}
use mathlib.Core.List.{List}
use lib.ListN.{length}
use borrow.Author.Tests.{eq-eqb, ne_eqb}
use Rattle.kinds.specs.Mount.{path_offset}
use Rattle.spec.specs.Bytes.{part, same_bytes}
use Rattle.laws.proofs.Count.{by_bool}
use Rattle.mount_spec.specs.Table.{Table, row_start, path_length, row_at, is_of_host, has_pair}

module _ (t : Table) (host : ℕ) (path : List ℕ) (r : ℕ) where
  -- a row of no or of another host
  pub other_host : is_of_host t host r ≡ false → has_pair t host path r ≡ false
  unfolding has_pair
  other_host e = rw e

  -- a path of another length
  pub other_length : (path_length t r ≡ length path → ⊥) → has_pair t host path r ≡ false
  unfolding has_pair
  other_length d = rw (ne_eqb (path_length t r) (length path) d) (by_bool (is_of_host t host r) (λ e. rw e) (λ e. rw e))

  -- else the bytes decide
  pub by_bytes : (n : ℕ) → is_of_host t host r ≡ true → path_length t r ≡ n → length path ≡ n
      → same_bytes (part t (row_start r + path_offset) n) path ≡ has_pair t host path r
  unfolding has_pair row_at
  by_bytes n e f g = rw (e, eq-eqb (path_length t r) (length path) (f ∙ sym g), f)
