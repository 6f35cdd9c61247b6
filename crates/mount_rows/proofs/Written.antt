-- A row written field by field. Assumes nothing.
use Prim.Native.Nat.{ℕ, ◌+◌, ◌-◌, ◌≤◌, ◌<◌}
use mathlib.Core.Path.{◌≡◌, ap, ◌∙◌}
use mathlib.Core.List.{List, ◌++◌, append_assoc}
use native.Mathlib.Omega.{arith}
use lib.ListN.{length, length-append}
use Rattle.kinds.specs.Mount.{rows, most_path_bytes, table_length}
use Rattle.spec.specs.Bytes.{overlay, zeros, bytes_of}
use Rattle.laws.proofs.Bytes.{bytes_length, overlay_more}
use Rattle.mount_spec.specs.Table.{Table, row_start, row_bytes, put_row}

pub row_written : (t : Table) (r host : ℕ) (path : List ℕ) (n at : ℕ) (t₁ t₂ t₃ t₄ : Table) → length t ≡ table_length → r < rows → at ≡ row_start r
    → length path ≡ n → n ≤ most_path_bytes
    → t₁ ≡ overlay t at (bytes_of 4 host) → t₂ ≡ overlay t₁ (at + 4) (bytes_of 4 n) → t₃ ≡ overlay t₂ (at + 8) path
    → t₄ ≡ overlay t₃ (at + 8 + n) (zeros (most_path_bytes - n)) → t₄ ≡ put_row t r (record { host = host; path = path })
unfolding put_row row_bytes
row_written t r host path n at t₁ t₂ t₃ t₄ long below place size short p q u v =
    let heads = bytes_of 4 host ++ bytes_of 4 n in
    let eight : length heads ≡ 8 = simp length-append (omega (arith, bytes_length 4 host, bytes_length 4 n)) in
    let two = overlay_more t at (bytes_of 4 host) (bytes_of 4 n) t₁ t₂ 4 (omega arith) (bytes_length 4 host) p q in
    let three = overlay_more t at heads path t₂ t₃ 8 (omega arith) eight two u in
    let whole : length (heads ++ path) ≡ 8 + n = simp length-append (omega (arith, bytes_length 4 host, bytes_length 4 n)) in
    let further : at + 8 + n ≡ at + (8 + n) = omega arith in
    let four = overlay_more t at (heads ++ path) (zeros (most_path_bytes - n)) t₃ t₄ (8 + n) (omega arith) whole three (rw further at v) in
    rw (size, ← place) (four ∙ ap (overlay t at) (simp append_assoc))
