-- Examples of the mount table: its check and its edits, by computation.
use Prim.Native.Nat.{◌+◌}
use lib.ListN.{replicate, set}
use mathlib.Core.List.{[], ◌∷◌, ◌++◌}
use mathlib.Core.Bool.{true, false}
use mathlib.Core.Path.{◌≡◌, refl}
use Rattle.spec.specs.Bytes.{zeros, words}
use Rattle.spec.specs.Checked.{refused, passed}
use Rattle.mount_spec.specs.Replies.{dotted}
use Rattle.mount_spec.specs.Table.{passes_table, add_pair, remove_pair, remove_host}
use Rattle.mount_spec.proofs.Setting.{top, path_a, path_b, path_x, desk, gate, row, table1, table2, table3, empty, full, mounting}

pub record Rows : Type 0 where
  -- "Mount table: 33,024 bytes"
  pub empty_passes : passes_table empty ≡ true
  pub too_short : passes_table (zeros 33023) ≡ false
  pub too_long : passes_table (zeros 33025) ≡ false
  pub used_passes : passes_table (table2 (row desk top) (row gate path_b)) ≡ true
  -- "free rows zero": a host, a byte of the path
  pub free_host : passes_table (set empty 3 1) ≡ false
  pub free_path : passes_table (set empty 33023 1) ≡ false
  -- "paths start with a slash, zero-padded"; "bytes inside a path are not judged, host 0 is a host"
  pub no_slash : passes_table (table1 (row desk (0x61 ∷ []))) ≡ false
  pub not_padded : passes_table (set (table1 (row desk top)) 9 0x61) ≡ false
  pub any_bytes : passes_table (table1 (row 0 (0x2F ∷ 0 ∷ 255 ∷ []))) ≡ true
  pub longest : passes_table (table1 (row desk (0x2F ∷ replicate 1023 0x61))) ≡ true
  pub too_long_path : passes_table (table1 (words (desk ∷ 1025 ∷ 0x2F000000 ∷ []) ++ zeros 1020)) ≡ false

pub rows : Rows
unfolding mounting
rows =
    record {
      empty_passes = refl;
      too_short = refl;
      too_long = refl;
      used_passes = refl;
      free_host = refl;
      free_path = refl;
      no_slash = refl;
      not_padded = refl;
      any_bytes = refl;
      longest = refl;
      too_long_path = refl;
    }

pub record Pairs : Type 0 where
  -- "no pair twice": one pair, two hosts, two paths
  pub twice : passes_table (table2 (row desk top) (row desk top)) ≡ false
  pub two_hosts : passes_table (table2 (row desk top) (row gate top)) ≡ true
  pub two_paths : passes_table (table2 (row desk top) (row desk path_a)) ≡ true

pub pairs : Pairs
unfolding mounting
pairs =
    record {
      twice = refl;
      two_hosts = refl;
      two_paths = refl;
    }

pub record Edits : Type 0 where
  -- "the lowest free row is taken"; "Paths are kept as sent"
  pub added : add_pair empty desk path_a ≡ passed (table1 (row desk path_a))
  pub added_between : add_pair (table3 (row desk top) (zeros 1032) (row gate top)) desk (0x2F ∷ path_a)
      ≡ passed (table3 (row desk top) (row desk (0x2F ∷ path_a)) (row gate top))
  -- "A pair already there isn't added again; else a full table gives SERVERFAULT"
  pub there : add_pair (table1 (row desk top)) desk top ≡ passed (table1 (row desk top))
  pub there_full : add_pair full 31 top ≡ passed full
  pub no_row : add_pair full desk top ≡ refused 10006
  -- "UMNT zeroes that pair's row, resolves nothing and always succeeds"; "other rows stay where they are"
  pub removed : remove_pair (table3 (row desk top) (row gate top) (row desk path_x)) desk top ≡ table3 (zeros 1032) (row gate top) (row desk path_x)
  pub not_there : remove_pair (table1 (row desk top)) gate top ≡ table1 (row desk top)
  pub removed_host : remove_host (table3 (row desk top) (row gate top) (row desk path_x)) desk ≡ table3 (zeros 1032) (row gate top) (zeros 1032)

pub edits : Edits
unfolding mounting
edits =
    record {
      added = refl;
      added_between = refl;
      there = refl;
      there_full = refl;
      no_row = refl;
      removed = refl;
      not_there = refl;
      removed_host = refl;
    }

pub record Hosts : Type 0 where
  -- "listed as dotted decimal": 192.0.2.1, 10.0.0.10, 0.0.0.0, 255.255.255.255, 1.20.99.100
  pub dotted_desk : dotted desk ≡ 0x31 ∷ 0x39 ∷ 0x32 ∷ 0x2E ∷ 0x30 ∷ 0x2E ∷ 0x32 ∷ 0x2E ∷ 0x31 ∷ []
  pub dotted_gate : dotted gate ≡ 0x31 ∷ 0x30 ∷ 0x2E ∷ 0x30 ∷ 0x2E ∷ 0x30 ∷ 0x2E ∷ 0x31 ∷ 0x30 ∷ []
  pub dotted_zero : dotted 0 ≡ 0x30 ∷ 0x2E ∷ 0x30 ∷ 0x2E ∷ 0x30 ∷ 0x2E ∷ 0x30 ∷ []
  pub dotted_most : dotted 0xFFFFFFFF
      ≡ 0x32 ∷ 0x35 ∷ 0x35 ∷ 0x2E ∷ 0x32 ∷ 0x35 ∷ 0x35 ∷ 0x2E ∷ 0x32 ∷ 0x35 ∷ 0x35 ∷ 0x2E ∷ 0x32 ∷ 0x35 ∷ 0x35 ∷ []
  pub dotted_lengths : dotted 0x01146364 ≡ 0x31 ∷ 0x2E ∷ 0x32 ∷ 0x30 ∷ 0x2E ∷ 0x39 ∷ 0x39 ∷ 0x2E ∷ 0x31 ∷ 0x30 ∷ 0x30 ∷ []

pub hosts : Hosts
unfolding mounting
hosts =
    record {
      dotted_desk = refl;
      dotted_gate = refl;
      dotted_zero = refl;
      dotted_most = refl;
      dotted_lengths = refl;
    }
