-- What it is for a row to have a pair of a host and a path. Assumes nothing.
use mathlib.Core.Path.{◌≡◌}
use mathlib.Core.Bool.{true, ◌&&◌}
use mathlib.Core.List.{List}
use Prim.Native.Nat.{ℕ}
use lib.Dec.{eqb}
use lib.ListN.{length}
use borrow.Author.Tests.{eqb-true, eq-eqb}
use Rattle.spec.specs.Bytes.{same_bytes}
use Rattle.laws.proofs.Bytes.{same_eq, same_yes}
use Rattle.laws.proofs.Count.{and_both}
use Rattle.mount_spec.specs.Table.{Table, path_length, row_at, is_used_row, is_of_host, has_pair}

pub record Has (t : Table) (h : ℕ) (p : List ℕ) (r : ℕ) : Type 0 where
  pub used : is_used_row t r ≡ true
  pub host : (row_at t r).host ≡ h
  pub long : path_length t r ≡ length p
  pub path : (row_at t r).path ≡ p

module _ (t : Table) (host : ℕ) (path : List ℕ) (r : ℕ) where
  pub pair_has : has_pair t host path r ≡ true → Has t host path r
  unfolding has_pair is_of_host
  pair_has e =
      let a = is_used_row t r in
      let b = eqb (row_at t r).host host in
      let c = eqb (path_length t r) (length path) in
      let d = same_bytes (row_at t r).path path in
      let (x, y) = and_both (a && b) (c && d) e in
      let (u, h) = and_both a b x in
      let (l, p) = and_both c d y in
      record { used = u; host = eqb-true (row_at t r).host host h; long = eqb-true (path_length t r) (length path) l; path = same_eq (row_at t r).path path p }

  pub has_pair_lem : Has t host path r → has_pair t host path r ≡ true
  unfolding has_pair is_of_host
  has_pair_lem h =
      rw (h.used, eq-eqb (row_at t r).host host h.host, eq-eqb (path_length t r) (length path) h.long)
      (same_yes (row_at t r).path path h.path)
