-- The starred examples of document 01, about `serve`, `check` and `format` themselves, by computation.
use Prim.Native.Nat.{◌+◌}
use lib.ListN.{length, get_or, replicate}
use mathlib.Core.Bool.{true}
use mathlib.Core.List.{[], ◌∷◌, ◌++◌, map}
use mathlib.Core.Path.{◌≡◌, refl}
use Rattle.spec.specs.Bytes.{part, words}
use Rattle.spec.specs.Count.{passing}
use Rattle.spec.specs.Serve.{check}
use Rattle.spec.proofs.Setting.{space, fresh, call_to, served, replied, answered, status_sent, handle_to, getattr_call, lookup_call, create_call}
use Rattle.spec.proofs.Setting.{mkdir_call, write_call, read_call, readdir_call, root_words, tag0123456789, tag123456789, name_a, root_alone, with_a}
use Rattle.spec.proofs.Setting.{without_blocks, with_tags, file_read, computing}

pub record Starred : Type 0 where
  -- "NULL, xid 7: words 7 1 0 0 0 0."
  pub null : served (call_to 0 []) root_alone ≡ replied (answered []) root_alone
  -- "GETATTR success 112 bytes; STALE 28.": the root, and a handle of another stamp
  pub getattr : served (getattr_call 0) root_alone ≡ replied (answered (0 ∷ root_words)) root_alone
  pub getattr_length : (served (getattr_call 0) root_alone).length ≡ 112
  pub stale : served (call_to 1 (words (12 ∷ 8 ∷ 0 ∷ 0 ∷ []))) root_alone ≡ replied (answered (70 ∷ [])) root_alone
  pub stale_length : (served (call_to 1 (words (12 ∷ 8 ∷ 0 ∷ 0 ∷ []))) root_alone).length ≡ 28
  -- "LOOKUP success 220; CREATE 252; WRITE 160."
  pub lookup_length : (served (lookup_call name_a) with_a).length ≡ 220
  pub create_length : (served (create_call name_a) (fresh 2 1 16)).length ≡ 252
  pub write_length : (served (write_call 1 0 name_a) with_a).length ≡ 160
  -- "P=1, Q=0, R=0: 100 bytes; MKDIR gives NOSPC."; "01's 100 bytes: 112"
  pub smallest : length root_alone ≡ 112
  pub smallest_passes : check root_alone ≡ 0
  pub smallest_full : status_sent (served (mkdir_call name_a) root_alone) ≡ 28
  pub smallest_kept : (served (mkdir_call name_a) root_alone).store ≡ root_alone
  -- "Root just formatted, READDIR cookie 0, count 160: both dots, eof, 188 bytes."
  pub listing : served (readdir_call 0 160) root_alone ≡ replied
      (answered (0 ∷ 1 ∷ root_words ++ (0 ∷ 0 ∷ 1 ∷ 0 ∷ 1 ∷ 1 ∷ 0x2E000000 ∷ 0 ∷ 1 ∷ 1 ∷ 0 ∷ 1 ∷ 2 ∷ 0x2E2E0000 ∷ 0 ∷ 2 ∷ 0 ∷ 1 ∷ []))) root_alone
  pub listing_length : (served (readdir_call 0 160) root_alone).length ≡ 188
  -- "Count 132 to 159: "." only, no eof. 131: TOOSMALL. Cookie 2, count 104: empty, eof."
  pub dot_only : map (λ k. served (readdir_call 0 (132 + k)) root_alone) (passing 28 (λ _. true)) ≡ replicate 28
      (replied (answered (0 ∷ 1 ∷ root_words ++ (0 ∷ 0 ∷ 1 ∷ 0 ∷ 1 ∷ 1 ∷ 0x2E000000 ∷ 0 ∷ 1 ∷ 0 ∷ 0 ∷ []))) root_alone)
  pub too_small : served (readdir_call 0 131) root_alone ≡ replied (answered (10005 ∷ 1 ∷ root_words)) root_alone
  pub empty : served (readdir_call 2 104) root_alone ≡ replied (answered (0 ∷ 1 ∷ root_words ++ (0 ∷ 0 ∷ 0 ∷ 1 ∷ []))) root_alone
  -- "WRITE of 1 byte at 8,191 fits; at 8,192 FBIG; 0 bytes there succeeds."
  pub last_byte : status_sent (served (write_call 1 8191 name_a) with_a) ≡ 0
  pub last_byte_stored : get_or (served (write_call 1 8191 name_a) with_a).store (20 + 184 + 44 + 8191) 0 ≡ 0x61
  pub past_end : status_sent (served (write_call 1 8192 name_a) with_a) ≡ 27
  pub nothing_there : status_sent (served (write_call 1 8192 []) with_a) ≡ 0
  pub nothing_changed : (served (write_call 1 8192 []) without_blocks).store ≡ without_blocks
  -- ""0123456789" and "123456789" are two files.": each is found, and each has its own bytes
  pub both_pass : check with_tags ≡ 0
  pub first_found : part (served (lookup_call tag0123456789) with_tags).space 28 16 ≡ handle_to 1
  pub second_found : part (served (lookup_call tag123456789) with_tags).space 28 16 ≡ handle_to 2
  pub first_read : part (served (read_call 1) with_tags).space 0 132 ≡ file_read 2 (0x41 ∷ [])
  pub second_read : part (served (read_call 2) with_tags).space 0 132 ≡ file_read 3 (0x42 ∷ 0x43 ∷ [])

pub starred : Starred
unfolding computing
starred =
    record {
      null = refl;
      getattr = refl;
      getattr_length = refl;
      stale = refl;
      stale_length = refl;
      lookup_length = refl;
      create_length = refl;
      write_length = refl;
      smallest = refl;
      smallest_passes = refl;
      smallest_full = refl;
      smallest_kept = refl;
      listing = refl;
      listing_length = refl;
      dot_only = refl;
      too_small = refl;
      empty = refl;
      last_byte = refl;
      last_byte_stored = refl;
      past_end = refl;
      nothing_there = refl;
      nothing_changed = refl;
      both_pass = refl;
      first_found = refl;
      second_found = refl;
      first_read = refl;
      second_read = refl;
    }
