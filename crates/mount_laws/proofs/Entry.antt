-- Examples of the entry of MOUNT: its answers in order, the outcomes of RPC and each procedure's whole outcome, by computation.
use Prim.Native.Nat.{ℕ}
use lib.ListN.{replicate}
use mathlib.Core.List.{List, [], ◌∷◌}
use mathlib.Core.Path.{◌≡◌, refl}
use Rattle.spec.specs.Bytes.{zeros, words}
use Rattle.spec.specs.Image.{Store}
use Rattle.mount_spec.specs.Serve.{serve_mount}
use Rattle.mount_spec.specs.Table.{Table}
use Rattle.mount_spec.proofs.Setting.{lane, top, path_a, path_c, desk, gate, row, table1, table2, table3, empty, mount_call, mnt_call, umnt_call}
use Rattle.mount_spec.proofs.Setting.{sent, heard, answered_by, mount_replied, mount_answered, mounted_at, mounting}

-- the answer's number alone
abbrev pub number_to : List ℕ → Store → Table → List ℕ → ℕ
number_to call s t space = (serve_mount call s t space desk).number

pub record Answers : Type 0 where
  -- answers 2, 4, 1, 12, and then the header, in this order: "here reply space under 33,692 bytes gets answer 2"
  pub space_first : number_to (zeros 8193) [] [] (zeros 33691) ≡ 2
  pub call_second : number_to (zeros 8193) [] [] (zeros 33692) ≡ 4
  pub store_third : number_to (zeros 7) [] [] (zeros 33692) ≡ 1
  pub table_fourth : number_to (zeros 7) lane [] (zeros 33692) ≡ 12
  pub header_fifth : number_to (zeros 7) lane empty (zeros 33692) ≡ 5

pub answers : Answers
unfolding mounting
answers =
    record {
      space_first = refl;
      call_second = refl;
      store_third = refl;
      table_fourth = refl;
      header_fifth = refl;
    }

pub record Outcomes : Type 0 where
  -- the outcomes of RPC: "100003 at the MOUNT entry .. PROG_UNAVAIL", PROG_MISMATCH 3 3, PROC_UNAVAIL, RPC_MISMATCH 2 2
  pub nfs_program : heard (words (7 ∷ 0 ∷ 2 ∷ 100003 ∷ 3 ∷ 0 ∷ 0 ∷ 0 ∷ 0 ∷ 0 ∷ [])) empty ≡ answered_by (words (7 ∷ 1 ∷ 0 ∷ 0 ∷ 0 ∷ 1 ∷ [])) empty
  pub version_1 : heard (words (7 ∷ 0 ∷ 2 ∷ 100005 ∷ 1 ∷ 0 ∷ 0 ∷ 0 ∷ 0 ∷ 0 ∷ [])) empty ≡ answered_by (words (7 ∷ 1 ∷ 0 ∷ 0 ∷ 0 ∷ 2 ∷ 3 ∷ 3 ∷ [])) empty
  pub procedure_6 : heard (mount_call 6 []) empty ≡ answered_by (words (7 ∷ 1 ∷ 0 ∷ 0 ∷ 0 ∷ 3 ∷ [])) empty
  pub other_rpc : heard (words (7 ∷ 0 ∷ 3 ∷ [])) empty ≡ answered_by (words (7 ∷ 1 ∷ 1 ∷ 0 ∷ 2 ∷ 2 ∷ [])) empty

pub outcomes : Outcomes
unfolding mounting
outcomes =
    record {
      nfs_program = refl;
      version_1 = refl;
      procedure_6 = refl;
      other_rpc = refl;
    }

pub record Mounts : Type 0 where
  -- NULL: 24 bytes
  pub null : heard (mount_call 0 []) empty ≡ answered_by (mount_answered []) empty
  -- "MNT OK: status, the handle as length word 12 and 12 bytes, 2 flavors 0 and 1"; "a failure is the status alone"
  pub mounts_root : heard (mnt_call top) empty ≡ answered_by (mounted_at 0) (table1 (row desk top))
  pub mounts_a : sent (mnt_call path_a) (table1 (row gate path_a)) ≡ mount_replied (mounted_at 1) (table2 (row gate path_a) (row desk path_a))
  pub longest_path : heard (mnt_call (replicate 1024 0x2F)) empty ≡ answered_by (mounted_at 0) (table1 (row desk (replicate 1024 0x2F)))
  pub not_a_directory : heard (mnt_call path_c) empty ≡ answered_by (mount_answered (words (20 ∷ []))) empty

pub mounts : Mounts
unfolding mounting
mounts =
    record {
      null = refl;
      mounts_root = refl;
      mounts_a = refl;
      longest_path = refl;
      not_a_directory = refl;
    }

pub record Lists : Type 0 where
  -- "DUMP: 1, host, path for each row, then 0": 192.0.2.1 "/" in row 0, row 1 free, 10.0.0.10 "/a" in row 2
  pub dumps : heard (mount_call 2 []) (table3 (row desk top) (zeros 1032) (row gate path_a))
      ≡ answered_by (mount_answered (words (1 ∷ 9 ∷ 0x3139322E ∷ 0x302E322E ∷ 0x31000000 ∷ 1 ∷ 0x2F000000 ∷ 1 ∷ 9 ∷ 0x31302E30 ∷ 0x2E302E31 ∷ 0x30000000
      ∷ 2 ∷ 0x2F610000 ∷ 0 ∷ []))) (table3 (row desk top) (zeros 1032) (row gate path_a))
  pub dumps_none : heard (mount_call 2 []) empty ≡ answered_by (mount_answered (words (0 ∷ []))) empty
  -- "EXPORT: words 1, 1, 2F000000, 0, 0."
  pub lists_exports : heard (mount_call 5 []) empty ≡ answered_by (mount_answered (words (1 ∷ 1 ∷ 0x2F000000 ∷ 0 ∷ 0 ∷ []))) empty

pub lists : Lists
unfolding mounting
lists =
    record {
      dumps = refl;
      dumps_none = refl;
      lists_exports = refl;
    }

pub record Unmounts : Type 0 where
  -- "UMNT zeroes that pair's row, resolves nothing and always succeeds"; "UMNTALL zeroes the host's rows"
  pub unmounts : heard (umnt_call (0x78 ∷ [])) (table1 (row desk top)) ≡ answered_by (mount_answered []) (table1 (row desk top))
  pub unmounts_a : sent (umnt_call path_a) (table2 (row desk path_a) (row gate path_a)) ≡ mount_replied (mount_answered []) (table2 (zeros 1032) (row gate path_a))
  pub unmounts_all : heard (mount_call 4 []) (table3 (row desk top) (row gate top) (row desk path_a))
      ≡ answered_by (mount_answered []) (table3 (zeros 1032) (row gate top) (zeros 1032))

pub unmounting : Unmounts
unfolding mounting
unmounting =
    record {
      unmounts = refl;
      unmounts_a = refl;
      unmounts_all = refl;
    }
